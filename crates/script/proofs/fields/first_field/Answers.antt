-- The bytes before the first space, as a number.
use mathlib.Core.Path.{sym}
use native.Mathlib.Omega.{arith}
use Rattle.cells.specs.Optional.{optional-none, optional-some}
use Rattle.script.specs.Parts.{head_of, head_in, head_read, space-inside}
use Rattle.script.proofs.fields.first_field.Goals as goal

pub returns-in_err-i : goal.returns-in_err-i
unfolding head_of head_in
returns-in_err-i c = rw (c.from_residual.ensures, optional-none _ (sym c.in_err-i.ensures))

pub returns-in_err-number : goal.returns-in_err-number
unfolding head_of head_in head_read
returns-in_err-number c =
    rw (c.from_residual-in_err-number.ensures, optional-some _ _ (sym c.in_ok-i.ensures), ← c.before-2.ensures, optional-none _ (sym c.in_err-number.ensures))

pub overflow_add-result : goal.overflow_add-result
overflow_add-result c = omega (arith, space-inside c.args.s.now 0 c.in_ok-i.i (optional-some _ _ (sym c.in_ok-i.ensures)), c.well_formed)

pub returns : goal.returns
unfolding head_of head_in head_read
returns c = rw (optional-some _ _ (sym c.in_ok-i.ensures), ← c.before-2.ensures, optional-some _ _ (sym c.in_ok-number.ensures))
