use Prim.Native.Nat.{◌-◌}
use mathlib.Core.Path.{◌≡◌}
use Rattle.definition.specs.Lists.{doubled, rows}
use Rattle.definition.specs.File.{same_field}
use Rattle.classfile.specs.Reading.{field_in, quick_fields}
use Rattle.classfile.proofs.rules.is_field_doubled.Given as goal

abbrev pub invariant-loop-i : goal.invariant-loop-i
invariant-loop-i l = doubled same_field (rows (field_in l.bytes) (l.i-end - l.i) l.i) ≡ doubled same_field (quick_fields l.bytes)
