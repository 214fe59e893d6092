-- The groups of a define's ties are right, stored or made, so it is decided by agreement.
use Rattle.loading.proofs.Admitted.{made-grouping, kept-grouping}
use Rattle.loading.proofs.lending.decide_class.Goals as goal

pub returns-then-posts_none : goal.returns-then-posts_none
returns-then-posts_none c = λ l bs size a b o f h. c.decide.ensures (kept-grouping _ l bs _ size _ _ _ c.stored_groups.ensures (c.posts_none.ensures c.if-posts_none.true) h) _ size a b o f h

pub returns : goal.returns
returns c = λ l bs size a b o f h. c.decide-2.ensures (made-grouping _ l bs _ size _ _ _ h c.group_ties.ensures) _ size a b o f h
