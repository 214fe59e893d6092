-- A refusal and what changes nothing list nothing; a newcomer is explained.
use mathlib.Core.Path.{◌∙◌}
use Rattle.loading.specs.Plans.{Admitted, Grouping}
use Rattle.loading.proofs.Admitted.{ready-new, tries-refused, tries-kept}
use Rattle.loading.proofs.trying.offer.Goals as goal

pub explain-requires : goal.explain-requires
explain-requires c = ready-new _ _ _ _ _ (rw c.in-Some.is at c.in-Ok.is) c.requires

pub returns-in-Err : goal.returns-in-Err
returns-in-Err c = λ g k a b o f h. c.unlisted.ensures _ ∙ tries-refused k c.args.list.now _ _ _ _ (rw c.in-Err.is at h)

pub returns-in-None : goal.returns-in-None
returns-in-None c = λ g k a b o f h. c.unlisted-in-None.ensures _ ∙ tries-kept k c.args.list.now _ _ _ (rw (rw c.in-None.is at c.in-Ok.is) at h)

pub returns-in-Some : goal.returns-in-Some
unfolding Admitted Grouping
returns-in-Some c = λ g k a b o f h. c.explain.ensures (rw (rw c.in-Some.is at c.in-Ok.is) at g) k a b o f (rw (rw c.in-Some.is at c.in-Ok.is) at h)
