-- The flow from entry goes to point 0, from which the walk goes on, or nowhere.
use mathlib.Core.Path.{refl, ap, ◌∙◌}
use Rattle.cells.specs.Optional.{optional}
use Rattle.verifier.proofs.StopLaws.{next-is, entry-on, entry-stop}
use Rattle.verifier.proofs.places.stop_of.Goals as goal

pub returns-in_default : goal.returns-in_default
returns-in_default c = ap optional (entry-stop _ _ _ _ _ _ _ c.entry_types-types.ensures (next-is _ _ _ _ _ (c.in_default.ensures _)) refl)

pub returns : goal.returns
returns c =
    c.walk_stop.ensures
    ∙ ap optional (entry-on _ _ _ _ _ _ _ c.entry_types-types.ensures (next-is _ _ _ _ _ (c.in-Ok.ensures _)) _ _ refl _ refl)
