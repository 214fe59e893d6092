-- The first p cached requests have their classes.
use Rattle.constraints.specs.Nodes.{ClassesOf}
use Rattle.constraints.proofs.numbering.list_classes.Given as goal

abbrev pub invariant-loop-p : goal.invariant-loop-p
invariant-loop-p l = ClassesOf l.cache l.nodes l.p l.classes
