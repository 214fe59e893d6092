-- The first p rows have their nodes, and are entered by their names.
use Rattle.groups.specs.Firsts.{FirstsIn, NodesOf, name_in, HasLow, HasName}
use Rattle.groups.proofs.names.number_names.Given as goal

abbrev pub invariant-loop-p : goal.invariant-loop-p
invariant-loop-p l = NodesOf (name_in l.ties) l.p l.nodes × FirstsIn (HasLow l.ties) l.p l.starts × FirstsIn (HasName l.ties) l.p l.blocks
