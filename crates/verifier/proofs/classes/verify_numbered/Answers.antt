-- Method j is there, and its code and its maps are parts of the bytes.
use mathlib.Core.Path.{sym}
use Rattle.verifier.proofs.PostingLaws.{posting-same}
use Rattle.verifier.proofs.ClassLaws.{never-absent, found_at, trace-found}
use Rattle.verifier.proofs.classes.verify_numbered.Goals as goal

pub returns-in_default : goal.returns-in_default
returns-in_default c = absurd (never-absent _ _ c.requires _ c.method_place.ensures c.in_default.is)

pub returns : goal.returns
returns c =
    posting-same _ _ _ _ _
    (sym (trace-found _ _ _ _ _ _ _ _ (found_at _ _ c.requires _ c.method_place.ensures _ c.in-Some.is)
    c.version-version.ensures c.class_name-own.ensures c.method_signature-s.ensures
    c.code.ensures c.method_maps.ensures))
    c.verify_method.ensures
