-- A refusal leaves the row and the objects; else the slot is remembered for the receiver, and the value is written there.
use Rattle.execution.specs.Reaches.{did-put}
use Rattle.std.proofs.Common.{sym, ◌∙◌}
use native.Mathlib.Omega.{arith}
use Rattle.execution.proofs.reaching.putfield.Goals as goal

pub returns : goal.returns
returns c = did-put _ _ _ _ _ _ _ _ _ _ c.requires.2 (omega (arith, c.if-code-at-le6.false)) _ _ _ _ _ _ _ c.if-d-lt2.false c.operand-v.ensures (rw (c.short_at.ensures) at (sym c.is_kind.ensures ∙ c.if-not-is_kind.false)) c.operand-x.ensures (c.slot_of.ensures _ c.in_ok-j.was) c.in_ok-m.ensures c.write_field.ensures
