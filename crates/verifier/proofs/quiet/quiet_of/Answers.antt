-- Each effect by its own function.
use mathlib.Core.Path.{refl}
use Rattle.verifier.proofs.QuietLaws.{quiet-loud}
use Rattle.verifier.proofs.quiet.quiet_of.Goals as goal

pub returns-in-Ended : goal.returns-in-Ended
returns-in-Ended c = λ s o l. quiet-loud _ _ _ _ refl
