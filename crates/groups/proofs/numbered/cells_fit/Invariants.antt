-- Before row i is looked at, the cells from i on are right exactly if all are.
use mathlib.Core.Path.{◌≡◌}
use Prim.Native.Nat.{◌-◌}
use Rattle.definition.specs.Numbers.{groups_cell}
use Rattle.definition.specs.Lists.{rows, same_list}
use Rattle.definition.specs.Tables.{number_at}
use Rattle.groups.specs.Numbered.{root_numbers}
use Rattle.groups.proofs.numbered.cells_fit.Given as goal

abbrev pub invariant-loop-i : goal.invariant-loop-i
invariant-loop-i l =
    same_list (rows (number_at groups_cell l.counts) (l.n - l.i) l.i) (rows (root_numbers l.counts l.roots) (l.n - l.i) l.i)
    ≡ same_list (rows (number_at groups_cell l.counts) l.n 0) (rows (root_numbers l.counts l.roots) l.n 0)
