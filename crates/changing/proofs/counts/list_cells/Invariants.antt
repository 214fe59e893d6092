use Prim.Native.Nat.{ℕ, ◌≤◌}
use mathlib.Core.Path.{◌≡◌}
use lib.ListN.{get_or}
use Rattle.definition.specs.Numbers.{loads_cell, counts_length}
use Rattle.definition.specs.Lists.{rows}
use Rattle.changing.specs.Cells.{cell_of}
use Rattle.changing.proofs.Copies.{Copying}
use Rattle.changing.proofs.counts.list_cells.Given as goal

abbrev pub invariant-loop-i : goal.invariant-loop-i
invariant-loop-i l = Copying (rows (cell_of l.old_counts l.n) counts_length 0) l.carried l.i × ((j : ℕ) → loads_cell ≤ j → get_or l.carried j 0 ≡ 0)
