-- The first p places have the labels of their nodes; the others are as they were. A node is its own node, so what was written of it is what it was.
use Prim.Native.Nat.{ℕ, ◌<◌, ◌≤◌}
use mathlib.Core.Path.{◌≡◌}
use lib.ListN.{get_or}
use Rattle.constraints.proofs.grouping.label_places.Given as goal

abbrev pub invariant-loop-p : goal.invariant-loop-p
invariant-loop-p l = ((q : ℕ) → q < l.p → get_or l.labels q 0 ≡ get_or l.initial.labels (get_or l.nodes q 0) 0) × ((q : ℕ) → l.p ≤ q → get_or l.labels q 0 ≡ get_or l.initial.labels q 0)
