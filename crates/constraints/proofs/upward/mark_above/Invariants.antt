-- What lies above the class is marked, or is the next class or above it.
use lib.ListN.{get_or}
use Rattle.constraints.specs.Agreement.{super_in}
use Rattle.constraints.proofs.Supers.{Raising, height}
use Rattle.constraints.proofs.upward.mark_above.Given as goal

abbrev pub invariant-loop-next : goal.invariant-loop-next
invariant-loop-next l = Raising (super_in l.supers) (get_or l.classes l.a 0) l.stamp l.next l.aboves

abbrev pub decreases-loop-next : goal.decreases-loop-next
decreases-loop-next l = height l.next
