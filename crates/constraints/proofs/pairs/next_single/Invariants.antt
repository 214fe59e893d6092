-- No place that was passed is marked.
use Prim.Native.Nat.{ℕ, ◌<◌, ◌≤◌}
use Rattle.constraints.specs.Search.{Marked}
use Rattle.constraints.proofs.pairs.next_single.Given as goal

abbrev pub invariant-loop-b : goal.invariant-loop-b
invariant-loop-b l = (p : ℕ) → p < l.b → l.from ≤ p → Marked l.stamp l.marks p → ⊥
