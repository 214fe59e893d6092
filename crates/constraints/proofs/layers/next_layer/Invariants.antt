-- The links that lead to the nodes before place i were looked at.
use Rattle.constraints.specs.Walks.{found}
use Rattle.constraints.proofs.Spreading.{Backward}
use Rattle.constraints.proofs.layers.next_layer.Given as goal

abbrev pub invariant-loop-i : goal.invariant-loop-i
invariant-loop-i l = Backward l.froms l.tos l.labels l.count l.layer l.low (found l.initial.dists l.initial.ways l.initial.queue l.high) l.i (found l.dists l.ways l.queue l.tail)
