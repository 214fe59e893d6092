-- Before place i is looked at, the greatest of it and those after it is the answer.
use mathlib.Core.Path.{◌≡◌}
use Prim.Native.Nat.{ℕ, ◌-◌, ◌<◌}
use Rattle.definition.specs.Numbers.{short_range}
use Rattle.store.specs.Tracing.{highest}
use Rattle.store.proofs.trace.highest.Given as goal

abbrev pub invariant-loop-i : goal.invariant-loop-i
invariant-loop-i g l = goal.F-IsAlwaysCallable g l.end × ((f : ℕ → ℕ) → ((i r : ℕ) → i < short_range → goal.F-post g l.end i r → r ≡ f i) → highest f l.i (l.to - l.i) l.greatest ≡ highest f l.from (l.to - l.from) l.most)
