-- One loader needs no tie; between two, a posting with no ties says that there is nothing new.
use Rattle.std.proofs.Common.{◌≡◌}
use native.Mathlib.Omega.{arith}
use borrow.Author.Tests.{eqb-true}
use Rattle.execution.specs.Facts.{old-same, old-found}
use Rattle.execution.proofs.noting.is_old.Goals as goal

pub returns-then-one-two : goal.returns-then-one-two
returns-then-one-two c = λ h. old-same _ _ _ _ c.if-one-two.true

pub returns : goal.returns
returns c =
    let e : c.in-Ok.first ≡ c.args.one = omega (arith, c.in-Ok.ensures) in
    let f : c.in-Ok-try_from.second ≡ c.args.two = omega (arith, c.in-Ok-try_from.ensures) in
    λ h. rw (← e, ← f) (old-found _ _ _ _ _ _ (rw c.at.ensures at c.new_ties-posting.ensures) c.tie_number.ensures.0 (eqb-true _ _ h))
