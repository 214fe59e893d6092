-- Before row k is written, the rows below it have been.
use Rattle.std.proofs.Common.{◌≡◌}
use Rattle.entries.specs.Remembering.{moved_down}
use Rattle.entries.proofs.trace.move_down.Given as goal

abbrev pub invariant-loop-k : goal.invariant-loop-k
invariant-loop-k l = l.counts ≡ moved_down l.initial.counts l.k
