use mathlib.Core.Path.{◌≡◌}
use Prim.Native.Nat.{◌-◌}
use Rattle.classfile.specs.Reading.{maps_of}
use Rattle.definition.specs.Places.{lacks_from, lacks_at}
use Rattle.verifier.proofs.places.lack_of.Given as goal

abbrev pub invariant-loop-turn : goal.invariant-loop-turn
invariant-loop-turn l = lacks_from l.version l.code (maps_of l.maps) (l.turn-end - l.turn) l.p l.wants ≡ lacks_at l.version l.code (maps_of l.maps)
