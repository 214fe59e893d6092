use Prim.Native.Nat.{◌-◌}
use Rattle.constraints.proofs.Searching.{Searching}
use Rattle.constraints.proofs.search.search.Given as goal

abbrev pub invariant-loop-done : goal.invariant-loop-done
invariant-loop-done l = Searching l.groups l.stop l.from l.to l.noted l.stamp l.a l.done l.marks l.queue l.tail

abbrev pub decreases-loop-done : goal.decreases-loop-done
decreases-loop-done l = 1280 - l.done
