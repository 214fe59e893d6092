-- The rows from i on have given their labels.
use Prim.Native.Nat.{ℕ, ◌-◌, ◌<◌}
use mathlib.Core.Path.{◌≡◌}
use lib.ListN.{get_or}
use Rattle.constraints.specs.Groups.{label_from}
use Rattle.constraints.proofs.grouping.label_nodes.Given as goal

abbrev pub invariant-loop-i : goal.invariant-loop-i
invariant-loop-i l = (x : ℕ) → x < l.ones → get_or l.labels x 0 ≡ label_from l.nodes l.ones l.tied l.beside (l.tied - l.i) l.i x
