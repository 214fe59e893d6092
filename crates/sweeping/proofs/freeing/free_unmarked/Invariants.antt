use mathlib.Core.Path.{◌≡◌}
use Prim.Native.Nat.{◌-◌, ◌≤◌}
use lib.ListN.{length, get_or}
use Rattle.sweeping.specs.Marking.{free_rows}
use Rattle.sweeping.proofs.freeing.free_unmarked.Given as goal

abbrev pub invariant-loop-o : goal.invariant-loop-o
invariant-loop-o l = (l.number ≤ l.o) × (free_rows l.marks (l.rows - l.o) l.o l.counts l.number ≡ free_rows l.marks (get_or l.initial.counts 5 0) 0 l.initial.counts 0) × (length l.counts ≡ length l.initial.counts)
