use mathlib.Core.Path.{◌≡◌}
use Prim.Native.Nat.{◌+◌, ◌≤◌}
use lib.ListN.{length}
use Rattle.store.proofs.Numbered.{numbered_from}
use Rattle.store.proofs.numbering.number_rows.Given as goal

abbrev pub invariant-loop-i : goal.invariant-loop-i
invariant-loop-i l = (l.i ≤ l.n) × (l.start ≡ l.first + l.row) × (length l.counts ≡ length l.initial.counts) × (l.counts ≡ numbered_from l.first l.row l.k l.n l.initial.counts l.i) × (l.k + l.n ≤ 512)
