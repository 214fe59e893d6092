-- The first i cells are written.
use mathlib.Core.Path.{◌≡◌}
use lib.ListN.{length, set, take}
use Rattle.definition.specs.Lists.{write_rows}
use Rattle.host.proofs.put_cells.Given as goal

abbrev pub invariant-loop-i : goal.invariant-loop-i
invariant-loop-i l = (l.answer ≡ write_rows set (take l.i l.row) 0 l.initial.answer) × (length l.answer ≡ length l.initial.answer)
