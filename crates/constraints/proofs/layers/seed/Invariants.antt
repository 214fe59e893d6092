-- The requests before place q were looked at.
use Rattle.constraints.proofs.Spreading.{Seeds}
use Rattle.constraints.proofs.layers.seed.Given as goal

abbrev pub invariant-loop-q : goal.invariant-loop-q
invariant-loop-q l = Seeds l.only l.aboves l.stamp l.classes l.c l.q l.dists l.queue l.tail
