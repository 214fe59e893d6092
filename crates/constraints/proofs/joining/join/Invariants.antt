-- The first e places are joined.
use Rattle.constraints.specs.Joining.{Joined}
use Rattle.constraints.specs.Search.{start_of}
use Rattle.constraints.proofs.joining.join.Given as goal

abbrev pub invariant-loop-e : goal.invariant-loop-e
invariant-loop-e l = Joined (start_of l.keys l.from) l.e l.heads l.nexts
