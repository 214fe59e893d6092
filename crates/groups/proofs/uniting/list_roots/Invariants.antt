-- The first p places have their roots.
use Prim.Native.Nat.{ℕ, ◌<◌}
use lib.ListN.{get_or}
use Rattle.groups.specs.Roots.{Root}
use Rattle.groups.proofs.uniting.list_roots.Given as goal

abbrev pub invariant-loop-p : goal.invariant-loop-p
invariant-loop-p l = (q : ℕ) → q < l.p → Root l.ups q (get_or l.roots q 0)
