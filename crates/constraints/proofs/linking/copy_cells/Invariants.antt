-- The first i cells are copied, and what lies below the first of them stays.
use Prim.Native.Nat.{ℕ, ◌+◌, ◌<◌}
use mathlib.Core.Path.{◌≡◌}
use lib.ListN.{get_or}
use Rattle.constraints.proofs.linking.copy_cells.Given as goal

abbrev pub invariant-loop-i : goal.invariant-loop-i
invariant-loop-i l = ((p : ℕ) → p < l.i → get_or l.target (l.to + p) 0 ≡ get_or l.source (l.from + p) 0)
    × ((p : ℕ) → p < l.to → get_or l.target p 0 ≡ get_or l.initial.target p 0)
