-- Each request that was passed is the first of its group.
use Prim.Native.Nat.{ℕ, ◌<◌, ◌≤◌}
use mathlib.Core.Path.{◌≡◌}
use lib.ListN.{get_or}
use Rattle.constraints.proofs.pairs.next_member.Given as goal

abbrev pub invariant-loop-b : goal.invariant-loop-b
invariant-loop-b l = (p : ℕ) → p < l.b → l.from ≤ p → get_or l.groups p 0 ≡ p
