-- The opcode is one byte long, and the plan is carried out on the row.
use Rattle.definition.specs.declared.Instruction.TheVariants.{Arithmetic}
use Rattle.execution.specs.Plain.{stepping, decode-arithmetic}
use native.Mathlib.Omega.{arith}
use Rattle.execution.proofs.walking.arithmetic.Goals as goal

pub returns : goal.returns
returns c = λ code l v e. stepping v code _ _ _ _ _ c.requires.1 (Arithmetic _) 1 _ _ _ (decode-arithmetic v code _ (omega (arith, l)) _ e) c.top_of.ensures c.arithmetic-plan.ensures c.put_above.ensures
