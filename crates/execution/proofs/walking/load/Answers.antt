-- With no byte behind the opcode the row stays; else the byte is the local that is loaded.
use Rattle.definition.specs.declared.Instruction.TheVariants.{Load}
use Rattle.execution.specs.Plain.{stepping, decode-load}
use native.Mathlib.Omega.{arith}
use Rattle.execution.proofs.walking.load.Goals as goal

pub returns : goal.returns
returns c = λ v e. stepping v _ _ _ _ _ _ c.requires.1 (Load _ _) 2 _ _ _ (decode-load v _ _ _ _ (omega (arith, c.if-code-at-le1.false)) c.at-j.ensures e) c.top_of.ensures c.load-plan.ensures c.put_above.ensures
