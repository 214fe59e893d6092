use Rattle.constraints.proofs.Filling.{Following}
use Rattle.constraints.proofs.numbering.node_of.Given as goal

abbrev pub invariant-loop-follow : goal.invariant-loop-follow
invariant-loop-follow l = Following l.numbers l.p l.follow

abbrev pub decreases-loop-follow : goal.decreases-loop-follow
decreases-loop-follow l = l.follow
