-- The opcode is one byte long, and the plan is carried out on the row.
use Rattle.definition.specs.declared.Instruction.TheVariants.{Dup}
use Rattle.execution.specs.Plain.{stepping, decode-dup}
use native.Mathlib.Omega.{arith}
use Rattle.execution.proofs.walking.dup.Goals as goal

pub returns : goal.returns
returns c = λ code l v e. stepping v code _ _ _ _ _ c.requires.1 Dup 1 _ _ _ (decode-dup v code _ (omega (arith, l)) e) c.top_of.ensures c.dup-plan.ensures c.put_above.ensures
