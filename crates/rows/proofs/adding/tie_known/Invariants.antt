-- None of the rows that were passed is the tie.
use Prim.Native.Nat.{◌-◌}
use mathlib.Core.Path.{◌≡◌}
use Rattle.definition.specs.Constraints.{tie_is}
use Rattle.definition.specs.Lists.{any, rows}
use Rattle.definition.specs.Tables.{tie_at}
use Rattle.rows.proofs.adding.tie_known.Given as goal

abbrev pub invariant-loop-i : goal.invariant-loop-i
invariant-loop-i l =
    any (tie_is l.one l.two l.name) (rows (tie_at l.ties) (l.count - l.i) l.i) ≡ any (tie_is l.one l.two l.name) (rows (tie_at l.ties) l.count 0)
