-- The groups beside the stored ties are right, so the try of a record is answered by agreement.
use Rattle.loading.proofs.Admitted.{stored-grouping}
use Rattle.loading.proofs.lending.offer_entry.Goals as goal

pub returns : goal.returns
returns c = λ l m k a b o f h. c.offer.ensures (stored-grouping _ l m k _ _ _ _ _ c.stored_groups.ensures h) _ a b o f h
