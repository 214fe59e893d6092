-- The flow from entry first; it goes to point 0, from which the walk goes on, or nowhere.
use mathlib.Core.Path.{refl}
use Rattle.verifier.proofs.PostingLaws.{exits}
use Rattle.verifier.proofs.WalkLaws.{entry-goes, entry-stops}
use Rattle.verifier.proofs.methods.verify_code.Goals as goal

pub returns-in_err-entry : goal.returns-in_err-entry
returns-in_err-entry c = rw (exits _ _ c.from_residual.ensures.1) (entry-stops _ _ _ _ _ _ _ _ _ _ c.entry_types-types.ensures (c.in_err-entry.ensures _) refl)

pub returns : goal.returns
returns c = entry-goes _ _ _ _ _ _ _ _ _ _ c.entry_types-types.ensures (c.in_ok-entry.ensures _) _ _ refl _ c.walk.ensures
