-- At most 16 operands with the new one, and no note.
use mathlib.Core.Path.{refl}
use Rattle.verifier.proofs.QuietLaws.{quiet-pushed, quiet-loud}
use Rattle.verifier.proofs.quiet.pushes.Goals as goal

pub returns-then-d-ge-OPERANDS : goal.returns-then-d-ge-OPERANDS
returns-then-d-ge-OPERANDS c = λ s o l. quiet-loud _ _ _ _ refl

pub returns-then-is_silent : goal.returns-then-is_silent
returns-then-is_silent c = λ s o l. quiet-pushed _ _ _ _ (c.is_silent.ensures c.if-is_silent.true).0 (c.is_silent.ensures c.if-is_silent.true).1 _ _ o c.if-d-ge-OPERANDS.false

pub returns-else-is_silent : goal.returns-else-is_silent
returns-else-is_silent c = λ s o l. quiet-loud _ _ _ _ refl
