-- What is left to be considered makes what all of it does.
use Prim.Native.Nat.{◌-◌}
use mathlib.Core.Path.{◌≡◌}
use Rattle.constraints.specs.Choosing.{held, Holds, considered_all}
use Rattle.constraints.proofs.choosing.consider_all.Given as goal

abbrev pub invariant-loop-q : goal.invariant-loop-q
invariant-loop-q l =
    Holds l.best l.kept
    × (considered_all l.tos l.labels l.dists l.ways l.classes l.c (l.cached - l.q) l.q (held l.best l.kept) ≡ considered_all l.tos l.labels l.dists l.ways l.classes l.c l.cached 0 (held l.initial.best l.fn.size))
