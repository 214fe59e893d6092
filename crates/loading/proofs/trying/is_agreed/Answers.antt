-- Without constraints there is nothing to agree on; else the copies have room.
use mathlib.Core.Path.{◌≡◌, refl, sym, ◌∙◌}
use Prim.Native.Nat.{ℕ, ◌≤◌}
use native.Mathlib.Omega.{arith}
use Rattle.loading.proofs.Copied.{agrees-free}
use Rattle.loading.proofs.trying.is_agreed.Goals as goal

enough : (n : ℕ) → n ≡ 8 → 8 ≤ n
enough n e = omega (arith, e)

pub returns-then-is_free : goal.returns-then-is_free
returns-then-is_free c = λ g bs f. agrees-free _ bs _ _ _ (sym c.is_free.ensures ∙ c.if-is_free.true)

pub returns : goal.returns
returns c = λ g bs f. c.judge.ensures.judged (enough _ refl) refl refl g bs f
