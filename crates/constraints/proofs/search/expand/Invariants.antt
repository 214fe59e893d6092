use Rattle.constraints.proofs.Searching.{Expanding}
use Rattle.constraints.proofs.search.expand.Given as goal

abbrev pub invariant-loop-follow : goal.invariant-loop-follow
invariant-loop-follow l = Expanding l.groups l.stop l.from l.to l.noted l.stamp l.group l.follow l.initial.marks l.initial.queue l.tail l.marks l.queue l.queued

abbrev pub decreases-loop-follow : goal.decreases-loop-follow
decreases-loop-follow l = l.follow
