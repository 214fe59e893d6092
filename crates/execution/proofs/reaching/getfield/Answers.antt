-- A refusal leaves the row; else the slot is remembered for the receiver, and its value is put above the operands that stay.
use Rattle.execution.specs.Reaches.{did-get}
use native.Mathlib.Omega.{arith}
use Rattle.execution.proofs.reaching.getfield.Goals as goal

pub returns : goal.returns
returns c = did-get _ _ _ _ _ _ _ _ _ _ c.requires.2 (omega (arith, c.if-code-p-le6.false)) _ _ _ _ _ _ c.if-d-eq0.false c.operand-x.ensures (c.slot_of.ensures _ c.in_ok-j.was) c.field-v.ensures c.put_above.ensures
