-- At most 16 operands, and no note.
use mathlib.Core.Path.{refl}
use Rattle.verifier.proofs.QuietLaws.{quiet-kept, quiet-loud}
use Rattle.verifier.proofs.quiet.keeps.Goals as goal

pub returns-then-d-gt-OPERANDS : goal.returns-then-d-gt-OPERANDS
returns-then-d-gt-OPERANDS c = λ s o l. quiet-loud _ _ _ _ refl

pub returns-then-is_silent : goal.returns-then-is_silent
returns-then-is_silent c = λ s o l. quiet-kept _ _ _ _ (c.is_silent.ensures c.if-is_silent.true).0 (c.is_silent.ensures c.if-is_silent.true).1 _ c.if-d-gt-OPERANDS.false

pub returns-else-is_silent : goal.returns-else-is_silent
returns-else-is_silent c = λ s o l. quiet-loud _ _ _ _ refl
