-- At no request that was passed a link starts.
use Prim.Native.Nat.{ℕ, suc, ◌<◌, ◌≤◌}
use mathlib.Core.Path.{◌≡◌}
use lib.ListN.{get_or}
use Rattle.constraints.proofs.looking.next_turn.Given as goal

abbrev pub invariant-loop-a : goal.invariant-loop-a
invariant-loop-a l = (m : ℕ) → m < l.a → l.turn ≤ suc m → get_or l.heads m 0 ≡ 0
