-- The first p rows have their nodes.
use Rattle.groups.specs.Firsts.{NodesOf, name_in}
use Rattle.groups.proofs.names.number_few.Given as goal

abbrev pub invariant-loop-p : goal.invariant-loop-p
invariant-loop-p l = NodesOf (name_in l.ties) l.p l.nodes
