-- No row before row q has the name.
use mathlib.Core.Path.{◌≡◌}
use Prim.Native.Nat.{ℕ, ◌<◌}
use Rattle.groups.specs.Firsts.{name_in}
use Rattle.groups.proofs.names.first_named.Given as goal

abbrev pub invariant-loop-q : goal.invariant-loop-q
invariant-loop-q l = (i : ℕ) → i < l.q → name_in l.ties i ≡ name_in l.ties l.p → ⊥
