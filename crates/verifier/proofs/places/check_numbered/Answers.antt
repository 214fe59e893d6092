-- Method j is there, and its code and its maps are parts of the bytes.
use mathlib.Core.Path.{ap, ◌∙◌}
use Rattle.cells.specs.Optional.{optional}
use Rattle.verifier.proofs.ClassLaws.{never-absent, found_at}
use Rattle.verifier.proofs.StopLaws.{check-found}
use Rattle.verifier.proofs.places.check_numbered.Goals as goal

pub returns-in_default : goal.returns-in_default
returns-in_default c = absurd (never-absent _ _ c.requires _ c.method_place.ensures c.in_default.is)

pub returns : goal.returns
returns c = c.check_method.ensures
    ∙ ap optional (check-found _ _ _ _ _ _ _ _ _ (found_at _ _ c.requires _ c.method_place.ensures _ c.in-Some.is) c.version-version.ensures c.class_name-own.ensures c.method_signature-s.ensures c.code.ensures c.method_maps.ensures)
