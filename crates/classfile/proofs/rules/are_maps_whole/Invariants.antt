use Prim.Native.Nat.{◌+◌, ◌-◌, ◌*◌, ◌≤◌}
use mathlib.Core.Path.{◌≡◌}
use Rattle.definition.specs.Lists.{every, rows}
use Rattle.classfile.specs.Reading.{map_count, map_place}
use Rattle.classfile.specs.Rules.{least_offset, whole_map_in}
use Rattle.classfile.proofs.rules.are_maps_whole.Given as goal

abbrev pub invariant-loop-i : goal.invariant-loop-i
invariant-loop-i l = record {
  at : l.place ≡ map_place l.maps l.i;
  below : l.place ≤ 1 + 529 * l.i;
  least : l.low ≡ least_offset l.maps l.i;
  whole : every (rows (whole_map_in l.maps) (l.i-end - l.i) l.i) ≡ every (rows (whole_map_in l.maps) (map_count l.maps) 0);
}
