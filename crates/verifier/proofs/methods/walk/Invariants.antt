use mathlib.Core.Path.{◌≡◌}
use lib.ListN.{length}
use Rattle.classfile.specs.Reading.{maps_of}
use Rattle.rows.specs.Posting.{noted}
use Rattle.verifier.specs.Types.{types_of}
use Rattle.verifier.specs.Trace.{trace, left_from, posting}
use Rattle.verifier.specs.Answers.{PlaceOf}
use Rattle.verifier.proofs.methods.walk.Given as goal

abbrev pub invariant-loop-left : goal.invariant-loop-left
invariant-loop-left l =
    PlaceOf l.maps l.i l.place
    × (posting l.loader (trace l.version l.code (maps_of l.maps) l.res l.left l.p (left_from l.maps l.i) (types_of l.types)) (noted l.subtypes l.total)
    ≡ posting l.loader (trace l.version l.code (maps_of l.maps) l.res (length l.code) 0 (maps_of l.maps) (types_of l.initial.types)) (noted l.initial.subtypes l.count))

abbrev pub decreases-loop-left : goal.decreases-loop-left
decreases-loop-left l = l.left
