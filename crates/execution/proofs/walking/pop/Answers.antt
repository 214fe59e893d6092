-- The opcode is one byte long, and the plan is carried out on the row.
use Rattle.definition.specs.declared.Instruction.TheVariants.{Pop}
use Rattle.execution.specs.Plain.{stepping, decode-pop}
use native.Mathlib.Omega.{arith}
use Rattle.execution.proofs.walking.pop.Goals as goal

pub returns : goal.returns
returns c = λ code l v e. stepping v code _ _ _ _ _ c.requires.1 Pop 1 _ _ _ (decode-pop v code _ (omega (arith, l)) e) c.top_of.ensures (c.pop.ensures _ _) c.put_point.ensures
