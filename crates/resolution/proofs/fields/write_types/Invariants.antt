-- What is left to write over what was written gives the whole.
use Rattle.std.proofs.Math.Path.{◌≡◌}
use Rattle.std.proofs.Math.ListN.{set}
use mathlib.Core.List.{map}
use Rattle.definition.specs.Lists.{rows, write_rows}
use Rattle.classfile.specs.Reading.{field_in, quick_fields}
use Rattle.resolution.specs.Slots.{field_type}
use Rattle.resolution.proofs.fields.write_types.Given as goal

abbrev pub invariant-loop-i : goal.invariant-loop-i
invariant-loop-i l = write_rows set (rows (λ j. field_type (field_in l.file j)) l.i 0) l.start l.types ≡ write_rows set (map field_type (quick_fields l.file)) l.start l.initial.types
