use Prim.Native.Nat.{◌+◌, ◌*◌, ◌≤◌}
use mathlib.Core.Path.{◌≡◌}
use Rattle.classfile.specs.Reading.{map_place}
use Rattle.verifier.proofs.LookupLaws.{IndexedTo}
use Rattle.verifier.proofs.lookups.index_maps.Given as goal

abbrev pub invariant-loop-i : goal.invariant-loop-i
invariant-loop-i l = record {
  some : 1 ≤ l.place;
  at : l.place ≡ map_place l.maps l.i;
  low : l.place ≤ 1 + 529 * l.i;
  indexed : IndexedTo l.maps l.places l.i;
}
