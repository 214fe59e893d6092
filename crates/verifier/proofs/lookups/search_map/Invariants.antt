use Prim.Native.Nat.{◌+◌, ◌-◌, ◌*◌, ◌≤◌}
use mathlib.Core.Path.{◌≡◌}
use Rattle.definition.specs.Lists.{rows}
use Rattle.definition.specs.Verifier.{map_at}
use Rattle.classfile.specs.Reading.{map_place, map_numbered, maps_of}
use Rattle.verifier.proofs.lookups.search_map.Given as goal

abbrev pub invariant-loop-i : goal.invariant-loop-i
invariant-loop-i l = record {
  at : l.place ≡ map_place l.maps l.i;
  low : l.place ≤ 1 + 529 * l.i;
  rest : map_at (rows (map_numbered l.maps) (l.i-end - l.i) l.i) l.q ≡ map_at (maps_of l.maps) l.q;
}
