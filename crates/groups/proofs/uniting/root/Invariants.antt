-- The root of where the way has come to is that of the place.
use Prim.Native.Nat.{ℕ, ◌≤◌}
use mathlib.Core.Path.{◌≡◌}
use lib.ListN.{get_or}
use Rattle.groups.specs.Roots.{Root}
use Rattle.groups.proofs.uniting.root.Given as goal

abbrev pub invariant-loop-up : goal.invariant-loop-up
invariant-loop-up l = (l.at ≤ l.p) × (l.up ≡ get_or l.ups l.at 0) × ((r : ℕ) → Root l.ups l.at r → Root l.ups l.p r)

abbrev pub decreases-loop-up : goal.decreases-loop-up
decreases-loop-up l = l.at
