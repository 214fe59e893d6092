-- An int by its first byte, a minus or not.
use mathlib.Core.Path.{◌≡◌, sym, ◌∙◌}
use Prim.Native.Nat.{◌-◌, ◌%◌}
use native.Mathlib.Omega.{arith}
use Rattle.cells.specs.Optional.{optional-none, optional-some}
use Rattle.definition.specs.Maybe.{◌>>=◌}
use Rattle.script.specs.Numbers.{int-minus, int-plain}
use Rattle.script.proofs.numbers.int_number.Goals as goal

pub returns-in_err-up_to : goal.returns-in_err-up_to
unfolding ◌>>=◌
returns-in_err-up_to c =
    rw (c.from_residual.ensures, int-minus _ (sym c.at.ensures ∙ c.if-at-eq45.true), ← c.after.ensures, optional-none _ (sym c.in_err-up_to.ensures))

pub returns-then-at-eq45 : goal.returns-then-at-eq45
unfolding ◌>>=◌
returns-then-at-eq45 c =
    let n = c.in_ok-up_to.field-0 in
    let negative : c.wrapping_neg.result ≡ (4294967296 - n) % 4294967296 = omega arith in
    rw (int-minus _ (sym c.at.ensures ∙ c.if-at-eq45.true), ← c.after.ensures, optional-some _ _ (sym c.in_ok-up_to.ensures), negative)

pub returns : goal.returns
returns c = rw (int-plain _ (λ e. c.if-at-eq45.false (c.at.ensures ∙ e))) c.up_to-2.ensures
