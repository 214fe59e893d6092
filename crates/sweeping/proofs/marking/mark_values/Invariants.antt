use mathlib.Core.Path.{◌≡◌}
use Prim.Native.Nat.{◌-◌}
use lib.ListN.{length}
use Rattle.definition.specs.Lists.{rows}
use Rattle.definition.specs.Sweeping.{named}
use Rattle.sweeping.specs.Marking.{work, mark_all, value_from}
use Rattle.sweeping.proofs.marking.mark_values.Given as goal

abbrev pub invariant-loop-i : goal.invariant-loop-i
invariant-loop-i l = (mark_all (work l.marks l.list l.size) (named (rows (value_from l.table l.first) (l.count - l.i) l.i)) ≡ mark_all (work l.initial.marks l.initial.list l.n) (named (rows (value_from l.table l.first) l.count 0))) × (length l.marks ≡ length l.initial.marks) × (length l.list ≡ length l.initial.list)
