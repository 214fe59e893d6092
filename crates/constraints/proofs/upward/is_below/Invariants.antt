-- The class is the other or below it exactly if the next one upward is.
use Rattle.constraints.specs.Agreement.{super_in}
use Rattle.constraints.proofs.Supers.{super-falls, height}
use Rattle.constraints.proofs.Alones.{Climbing}
use Rattle.constraints.proofs.upward.is_below.Given as goal

abbrev pub invariant-loop-next : goal.invariant-loop-next
invariant-loop-next l = Climbing (super_in l.supers) (super-falls l.supers) l.c l.d l.next

abbrev pub decreases-loop-next : goal.decreases-loop-next
decreases-loop-next l = height l.next
