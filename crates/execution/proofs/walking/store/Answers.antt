-- With no byte behind the opcode the row stays; else the byte is the local that is set.
use Rattle.definition.specs.declared.Instruction.TheVariants.{Store}
use Rattle.execution.specs.Plain.{stepping, decode-store}
use native.Mathlib.Omega.{arith}
use Rattle.execution.proofs.walking.store.Goals as goal

pub returns : goal.returns
returns c = λ v e. stepping v _ _ _ _ _ _ c.requires.1 (Store _ _) 2 _ _ _ (decode-store v _ _ _ _ (omega (arith, c.if-code-at-le1.false)) c.at-j.ensures e) c.top_of.ensures c.store-plan.ensures c.put_local.ensures
