-- No link that was passed ends at the group.
use Prim.Native.Nat.{ℕ, ◌<◌}
use mathlib.Core.Path.{◌≡◌}
use Rattle.constraints.specs.Search.{start_of}
use Rattle.constraints.proofs.looking.is_end.Given as goal

abbrev pub invariant-loop-e : goal.invariant-loop-e
invariant-loop-e l = (d : ℕ) → d < l.e → start_of l.groups l.to d ≡ l.group → ⊥
