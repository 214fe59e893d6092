-- Before row i is tested, the rows from i on pass exactly if all do.
use mathlib.Core.Path.{◌≡◌}
use Prim.Native.Nat.{◌-◌}
use Rattle.definition.specs.Broken.{tie_fits}
use Rattle.definition.specs.Lists.{all, rows}
use Rattle.definition.specs.Tables.{tie_at}
use Rattle.groups.proofs.grouping.rows_fit.Given as goal

abbrev pub invariant-loop-i : goal.invariant-loop-i
invariant-loop-i l = all tie_fits (rows (tie_at l.ties) (l.n - l.i) l.i) ≡ all tie_fits (rows (tie_at l.ties) l.n 0)
