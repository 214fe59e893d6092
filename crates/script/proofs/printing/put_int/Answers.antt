-- A space, a minus where the int is negative, then the digits.
use mathlib.Core.Path.{◌∙◌}
use Rattle.script.specs.Printing.{signed-small, minus-wrote}
use Rattle.script.proofs.printing.put_int.Goals as goal

pub returns-then-bits-lt-SIGN_BIT : goal.returns-then-bits-lt-SIGN_BIT
returns-then-bits-lt-SIGN_BIT c = rw (signed-small _ c.if-bits-lt-SIGN_BIT.true) c.put_number.ensures

pub shape_of-out : goal.shape_of-out
shape_of-out c =
    c.put_digits.auto.out ∙ (c.put-2.auto.t ∙ c.put.auto.t)

pub returns : goal.returns
returns c =
    minus-wrote _ _ _ _ _ c.put.ensures _ _ c.if-bits-lt-SIGN_BIT.false c.put-2.ensures c.put_digits.ensures
