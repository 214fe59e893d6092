-- While none was found, none of those that were passed is marked.
use Prim.Native.Nat.{ℕ, ◌+◌, ◌<◌, ◌≤◌}
use mathlib.Core.Path.{◌≡◌}
use mathlib.Core.Bool.{false}
use Rattle.constraints.specs.Search.{Marked}
use Rattle.constraints.proofs.pairs.is_any.Given as goal

abbrev pub invariant-loop-i : goal.invariant-loop-i
invariant-loop-i l = l.found ≡ false → (p : ℕ) → p < l.from + l.i → l.from ≤ p → Marked l.stamp l.marks p → ⊥
