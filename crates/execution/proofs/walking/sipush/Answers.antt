-- With fewer than two bytes behind the opcode the row stays; else they are the int that is pushed.
use Rattle.definition.specs.Instructions.{extend}
use Rattle.definition.specs.declared.Instruction.TheVariants.{Sipush}
use Rattle.execution.specs.Plain.{stepping, decode-sipush}
use Rattle.std.proofs.Common.{ap, ◌∙◌}
use native.Mathlib.Omega.{arith}
use Rattle.execution.proofs.walking.sipush.Goals as goal

pub returns : goal.returns
returns c = λ v e. stepping v _ _ _ _ _ _ c.requires.1 (Sipush _) 3 _ _ _ (decode-sipush v _ _ _ (omega (arith, c.if-code-at-le2.false)) (c.extended-n.ensures ∙ ap extend c.short_at.ensures) e) c.top_of.ensures (c.sipush.ensures _ _) c.put_above.ensures
