use Prim.Native.Nat.{◌-◌}
use mathlib.Core.Path.{◌≡◌}
use Rattle.definition.specs.Lists.{any, rows}
use Rattle.classfile.specs.Reading.{field_count, field_in, field_named}
use Rattle.classfile.proofs.fields.named_from.Given as goal

abbrev pub invariant-loop-i : goal.invariant-loop-i
invariant-loop-i l =
    any (field_named l.name) (rows (field_in l.bytes) (l.i-end - l.i) l.i) ≡ any (field_named l.name) (rows (field_in l.bytes) (field_count l.bytes - l.first) l.first)
