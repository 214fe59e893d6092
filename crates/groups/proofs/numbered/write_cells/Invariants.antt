-- The cells from i on are written.
use mathlib.Core.Path.{◌≡◌}
use Rattle.groups.proofs.Numbering.{wrote}
use Rattle.groups.proofs.numbered.write_cells.Given as goal

abbrev pub invariant-loop-i : goal.invariant-loop-i
invariant-loop-i l = l.counts ≡ wrote l.initial.counts l.roots l.n l.i
