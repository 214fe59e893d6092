-- A local that is there.
use mathlib.Core.Path.{refl}
use Rattle.verifier.proofs.QuietLaws.{quiet-stored, quiet-loud}
use Rattle.verifier.proofs.quiet.sets.Goals as goal

pub returns-then-d-gt-OPERANDS : goal.returns-then-d-gt-OPERANDS
returns-then-d-gt-OPERANDS c = λ s o l. quiet-loud _ _ _ _ refl

pub returns-then-i-ge-LOCALS : goal.returns-then-i-ge-LOCALS
returns-then-i-ge-LOCALS c = λ s o l. quiet-loud _ _ _ _ refl

pub returns-else-i-ge-LOCALS : goal.returns-else-i-ge-LOCALS
returns-else-i-ge-LOCALS c = λ s o l. quiet-stored _ _ _ _ _ l c.if-d-gt-OPERANDS.false c.if-i-ge-LOCALS.false
