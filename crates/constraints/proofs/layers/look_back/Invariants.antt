use Rattle.constraints.specs.Walks.{found}
use Rattle.constraints.proofs.Spreading.{Looking}
use Rattle.constraints.proofs.layers.look_back.Given as goal

abbrev pub invariant-loop-follow : goal.invariant-loop-follow
invariant-loop-follow l =
    Looking l.froms l.tos l.labels l.count l.layer l.node (found l.initial.dists l.initial.ways l.initial.queue l.tail) l.follow (found l.dists l.ways l.queue l.queued)

abbrev pub decreases-loop-follow : goal.decreases-loop-follow
decreases-loop-follow l = l.follow
