use mathlib.Core.Path.{◌≡◌}
use Prim.Native.Nat.{◌-◌}
use lib.ListN.{length}
use Rattle.classfile.specs.Reading.{maps_of}
use Rattle.verifier.specs.Types.{types_of}
use Rattle.verifier.specs.Trace.{left_from}
use Rattle.verifier.specs.Answers.{PlaceOf}
use Rattle.verifier.specs.Stops.{stops}
use Rattle.verifier.proofs.places.walk_stop.Given as goal

abbrev pub invariant-loop-turn : goal.invariant-loop-turn
invariant-loop-turn l = record {
  at : PlaceOf l.maps l.i l.place;
  rest : stops l.version l.code (maps_of l.maps) l.res (l.turn-end - l.turn) l.p (left_from l.maps l.i) (types_of l.types)
      ≡ stops l.version l.code (maps_of l.maps) l.res (length l.code) 0 (maps_of l.maps) (types_of l.initial.types);
}
