-- The first i cells are written, and what is left of the chain follows them.
use Rattle.constraints.proofs.Choices.{Written}
use Rattle.constraints.proofs.choosing.write_trail.Given as goal

abbrev pub invariant-loop-i : goal.invariant-loop-i
invariant-loop-i l = Written l.tos l.labels l.ways l.k l.node l.best l.i l.here
