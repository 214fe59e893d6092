-- With fewer than two bytes behind the opcode the row stays; else they are the target.
use Rattle.definition.specs.declared.Instruction.TheVariants.{Branch}
use Rattle.execution.specs.Plain.{stepping, decode-branch}
use native.Mathlib.Omega.{arith}
use Rattle.execution.proofs.walking.branch.Goals as goal

pub returns : goal.returns
returns c = λ v e. stepping v _ _ _ _ _ _ c.requires.1 (Branch _ _) 3 _ _ _ (decode-branch v _ _ _ _ (omega (arith, c.if-code-at-le2.false)) c.short_at-target.ensures e) c.top_of.ensures c.branch-plan.ensures c.put_point.ensures
