-- The groups of a define's ties are right, so its try is answered by agreement.
use Rattle.loading.proofs.Admitted.{made-grouping}
use Rattle.loading.proofs.lending.offer_class.Goals as goal

pub returns : goal.returns
returns c = λ l bs a b o f h. c.offer.ensures (made-grouping _ l bs _ _ _ _ _ h c.group_ties.ensures) _ a b o f h
