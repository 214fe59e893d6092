-- Nothing is found yet. Turns before this one are over, and what was looked at in them agrees; of this turn's, the next place to be looked at is one of the
-- span, and each before it is fine.
use Rattle.std.proofs.Common.{◌≡◌, ℕ, suc, ◌-◌, ◌<◌, ◌≤◌, Some, None}
use Rattle.constraints.specs.Agreement.{super_in}
use Rattle.constraints.specs.Looking.{lead_of}
use Rattle.constraints.specs.Pairs.{ToMeet, PairFine, reach}
use Rattle.constraints.proofs.Pairing.{Tested}
use Rattle.constraints.proofs.agreement.find_pair.Given as goal

abbrev pub invariant-loop-next : goal.invariant-loop-next
invariant-loop-next l = record {
  found : l.found ≡ None;
  fits : (b : ℕ) → l.next ≡ Some b → (l.span.from ≤ b) × (b < l.span.end);
  fine : (p : ℕ) → p < reach l.span.end l.next → l.span.from ≤ p → ToMeet l.span.who l.groups l.outs l.stamp p
      → PairFine (super_in l.supers) l.groups l.classes l.outs l.ins l.aboves l.stamp (lead_of l.turn l.groups l.a p) p;
}

abbrev pub decreases-loop-next : goal.decreases-loop-next
decreases-loop-next l = l.span.end - reach l.span.end l.next

abbrev pub invariant-pairs : goal.invariant-pairs
invariant-pairs l = record {
  found : l.found ≡ None;
  tested : Tested (super_in l.supers) l.groups l.classes l.cached l.noted l.newcomer l.turn l.outs l.ins l.queue l.aboves;
}

abbrev pub decreases-pairs : goal.decreases-pairs
decreases-pairs l = suc (suc l.cached) - l.turn
