-- The types of the fields of the class reached, written over what was written, give those of c. Numbers fall, so the walk ends.
use Rattle.std.proofs.Math.Path.{◌≡◌}
use Rattle.std.proofs.Math.ListN.{length, set}
use mathlib.Core.List.{map}
use Rattle.definition.specs.Classes.{slots}
use Rattle.definition.specs.Lists.{write_rows}
use Rattle.resolution.specs.Quick.{base_of}
use Rattle.resolution.specs.Slots.{slot_type}
use Rattle.resolution.proofs.Base.slot_types.Given as goal

abbrev pub invariant-loop-p : goal.invariant-loop-p
invariant-loop-p l = (write_rows set (map slot_type (slots (base_of l.self) l.at)) 0 l.types ≡ write_rows set (map slot_type (slots (base_of l.self) l.c)) 0 l.initial.types) × (l.end ≡ length (slots (base_of l.self) l.at))

abbrev pub decreases-loop-p : goal.decreases-loop-p
decreases-loop-p l = l.at
