-- A plan without a newcomer stays; one with a newcomer is judged by agreement.
use mathlib.Core.Path.{sym, ◌∙◌}
use Rattle.loading.specs.Plans.{file_of, Admitted, Grouping}
use Rattle.loading.proofs.Admitted.{decides-refuse, decides-keep, decides-add, decides-clash}
use Rattle.loading.proofs.trying.decide.Goals as goal

pub returns-then-is_agreed : goal.returns-then-is_agreed
unfolding Admitted Grouping
returns-then-is_agreed c = λ g k size a b o f h.
    let newly = rw (rw c.in-Some.is at c.in-Ok.is) at h in
    rw c.in-Some.is (decides-add k _ size _ _ _ newly (sym (c.is_agreed.ensures (rw (rw c.in-Some.is at c.in-Ok.is) at g) (file_of k) newly.fits) ∙ c.if-is_agreed.true))

pub returns-in-Err : goal.returns-in-Err
returns-in-Err c = λ g k size a b o f h. rw c.in-Err.is (decides-refuse k _ size _ _ _ (rw c.in-Err.is at h))

pub returns-in-None : goal.returns-in-None
returns-in-None c = λ g k size a b o f h. rw c.in-None.is (decides-keep k _ size _ _ (rw (rw c.in-None.is at c.in-Ok.is) at h))

pub returns-else-is_agreed : goal.returns-else-is_agreed
unfolding Admitted Grouping
returns-else-is_agreed c = λ g k size a b o f h.
    let newly = rw (rw c.in-Some.is at c.in-Ok.is) at h in
    decides-clash k _ size _ _ _ newly (sym (c.is_agreed.ensures (rw (rw c.in-Some.is at c.in-Ok.is) at g) (file_of k) newly.fits) ∙ c.if-is_agreed.false)
