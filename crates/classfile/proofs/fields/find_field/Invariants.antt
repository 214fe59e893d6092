use Prim.Native.Nat.{◌-◌}
use mathlib.Core.Path.{◌≡◌}
use Rattle.definition.specs.Lists.{index_of, rows}
use Rattle.classfile.specs.Lists.{shift}
use Rattle.classfile.specs.Reading.{field_in, quick_fields, field_is}
use Rattle.classfile.proofs.fields.find_field.Given as goal

abbrev pub invariant-loop-i : goal.invariant-loop-i
invariant-loop-i l =
    shift l.i (index_of (field_is l.name l.type_name) (rows (field_in l.bytes) (l.i-end - l.i) l.i)) ≡ index_of (field_is l.name l.type_name) (quick_fields l.bytes)
