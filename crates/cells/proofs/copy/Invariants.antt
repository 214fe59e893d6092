-- The first i cells stand in the target; the others are as they were.
use Rattle.std.proofs.Common.{◌≡◌, ◌≤◌, length, take, drop}
use Rattle.cells.proofs.copy.Given as goal

abbrev pub invariant-loop-i : goal.invariant-loop-i
invariant-loop-i g l = (l.i ≤ l.n) × (take l.i l.target ≡ take l.i l.source) × (drop l.i l.target ≡ drop l.i l.initial.target) × (length l.target ≡ length l.initial.target)
