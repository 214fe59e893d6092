-- Only a newcomer posts ties.
use mathlib.Core.Path.{◌∙◌}
use borrow.Author.Tests.{eqb-true}
use Rattle.loading.specs.Plans.{PostsNone}
use Rattle.loading.proofs.lending.posts_none.Goals as goal

pub returns-in-Err : goal.returns-in-Err
unfolding PostsNone
returns-in-Err c = λ h. rw c.in-Err.is tt

pub returns-in-None : goal.returns-in-None
unfolding PostsNone
returns-in-None c = λ h. rw (rw c.in-None.is at c.in-Ok.is) tt

pub returns-in-Some : goal.returns-in-Some
unfolding PostsNone
returns-in-Some c = λ h. rw (rw c.in-Some.is at c.in-Ok.is) (eqb-true _ _ h ∙ c.at.ensures)
