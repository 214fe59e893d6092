use mathlib.Core.Path.{◌≡◌}
use Prim.Native.Nat.{◌<◌, ◌≤◌}
use Rattle.classfile.specs.Reading.{maps_of}
use Rattle.verifier.specs.Types.{types_of}
use Rattle.verifier.specs.Trace.{trace, left_from}
use Rattle.verifier.specs.Answers.{PlaceOf}
use Rattle.verifier.proofs.quiet.quiet_run.Given as goal

abbrev pub invariant-loop-left : goal.invariant-loop-left
invariant-loop-left l =
    PlaceOf l.maps l.i l.place × (0 < l.left) × (l.left ≤ l.n)
    × (trace l.version l.code (maps_of l.maps) l.res l.left l.point (left_from l.maps l.i) (types_of l.types)
    ≡ trace l.version l.code (maps_of l.maps) l.res l.n l.from (left_from l.maps l.map) (types_of l.initial.types))

abbrev pub decreases-loop-left : goal.decreases-loop-left
decreases-loop-left l = l.left
