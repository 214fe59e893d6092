-- Method j is there, and its code and maps are parts of the bytes.
use Rattle.verifier.proofs.ClassLaws.{never-absent, found_at}
use Rattle.verifier.proofs.LookupLaws.{unmapped-found}
use Rattle.verifier.proofs.unmapped.is_numbered_unmapped.Goals as goal

pub returns-in_default : goal.returns-in_default
returns-in_default c =
    absurd (never-absent _ _ c.requires _ c.method_place.ensures c.in_default.is)

pub returns : goal.returns
returns c =
    unmapped-found _ _ _ _ _ _ _
    (found_at _ _ c.requires _ c.method_place.ensures _ c.in-Some.is)
    c.version-version.ensures
    c.code.ensures
    c.method_maps.ensures
    c.is_unmapped.ensures
