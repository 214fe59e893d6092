-- Before map i is passed, its place is known.
use native.Mathlib.Omega.{arith}
use Rattle.classfile.proofs.Laws.{map_next}
use Rattle.classfile.specs.Reading.{map_place}
use Rattle.classfile.proofs.maps.maps_end.Goals as goal

pub loop-i-init : goal.loop-i-init
unfolding map_place
loop-i-init c = record { at = omega arith; low = omega arith }

pub loop-i-preserved : goal.loop-i-preserved
loop-i-preserved c = record { at = map_next _ _ _ _ c.loop-i.invariant.at c.map_size-place.ensures.0; low = omega arith }
