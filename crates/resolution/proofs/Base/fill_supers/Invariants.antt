-- What is left to write over what was written gives the whole.
use Rattle.std.proofs.Math.Path.{◌≡◌}
use Rattle.std.proofs.Math.ListN.{set}
use Rattle.definition.specs.Lists.{rows, write_rows}
use Rattle.resolution.specs.Lookups.{super_cell}
use Rattle.resolution.specs.Quick.{base_of}
use Rattle.resolution.proofs.Base.fill_supers.Given as goal

abbrev pub invariant-loop-i : goal.invariant-loop-i
invariant-loop-i l = write_rows set (rows (super_cell (base_of l.self)) l.i 0) 0 l.supers ≡ write_rows set (rows (super_cell (base_of l.self)) 64 0) 0 l.initial.supers
