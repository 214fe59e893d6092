use mathlib.Core.Path.{◌≡◌}
use Rattle.classfile.specs.Reading.{file_version, class_name, methods_from, quick_methods}
use Rattle.definition.specs.Places.{first_place}
use Rattle.verifier.specs.Stops.{check_in}
use Rattle.verifier.proofs.places.find_place.Given as goal

abbrev pub invariant-loop-j : goal.invariant-loop-j
invariant-loop-j l =
    first_place (check_in l.check (file_version l.bytes) (class_name l.bytes)) l.j (methods_from l.bytes l.j)
    ≡ first_place (check_in l.check (file_version l.bytes) (class_name l.bytes)) 0 (quick_methods l.bytes)
