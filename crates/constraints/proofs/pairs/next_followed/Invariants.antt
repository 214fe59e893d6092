-- No place that was passed is marked.
use Prim.Native.Nat.{ℕ, ◌+◌, ◌*◌, ◌<◌, ◌≤◌}
use Rattle.constraints.specs.Search.{Marked}
use Rattle.constraints.proofs.pairs.next_followed.Given as goal

abbrev pub invariant-loop-round : goal.invariant-loop-round
invariant-loop-round l = (p : ℕ) → p < l.from + 8 * l.round → l.from ≤ p → Marked l.stamp l.marks p → ⊥
