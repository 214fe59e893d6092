use Prim.Native.Nat.{◌-◌}
use Rattle.constraints.specs.Walks.{found}
use Rattle.constraints.proofs.Spreading.{Spreads}
use Rattle.constraints.proofs.layers.spread.Given as goal

abbrev pub invariant-loop-low : goal.invariant-loop-low
invariant-loop-low l =
    Spreads l.froms l.tos l.labels l.count l.limit (found l.initial.dists l.initial.ways l.initial.queue l.seeds) l.n l.low (found l.dists l.ways l.queue l.tail)

abbrev pub decreases-loop-low : goal.decreases-loop-low
decreases-loop-low l = 1281 - l.low
