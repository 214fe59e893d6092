use Prim.Native.Nat.{◌+◌, ◌*◌, ◌≤◌}
use mathlib.Core.Path.{◌≡◌}
use Rattle.classfile.specs.Reading.{map_place}
use Rattle.classfile.proofs.maps.maps_end.Given as goal

abbrev pub invariant-loop-i : goal.invariant-loop-i
invariant-loop-i l = record { at : l.place ≡ map_place l.maps l.i; low : l.place ≤ 1 + 529 * l.i }
