-- The groups beside the stored ties are right, so a record is decided by agreement.
use Rattle.loading.proofs.Admitted.{stored-grouping}
use Rattle.loading.proofs.lending.decide_entry.Goals as goal

pub returns : goal.returns
returns c = λ l m k size a b o f h. c.decide.ensures (stored-grouping _ l m k _ size _ _ _ c.stored_groups.ensures h) _ size a b o f h
