-- The opcode is one byte long, and the plan is carried out on the row.
use Rattle.definition.specs.declared.Instruction.TheVariants.{AconstNull}
use Rattle.execution.specs.Plain.{stepping, decode-null}
use native.Mathlib.Omega.{arith}
use Rattle.execution.proofs.walking.aconst_null.Goals as goal

pub returns : goal.returns
returns c = λ code l v e. stepping v code _ _ _ _ _ c.requires.1 AconstNull 1 _ _ _ (decode-null v code _ (omega (arith, l)) e) c.top_of.ensures (c.aconst_null.ensures _ _) c.put_above.ensures
