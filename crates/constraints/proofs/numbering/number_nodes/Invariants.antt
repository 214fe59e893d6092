-- The first p places have their nodes and are joined by their numbers.
use Rattle.constraints.specs.Joining.{Joined}
use Rattle.constraints.specs.Nodes.{NodesOf, bucket_in}
use Rattle.constraints.proofs.numbering.number_nodes.Given as goal

abbrev pub invariant-loop-p : goal.invariant-loop-p
invariant-loop-p l = NodesOf l.numbers l.p l.nodes × Joined (bucket_in l.numbers) l.p l.heads l.nexts
