use mathlib.Core.Path.{◌≡◌}
use lib.ListN.{length}
use Rattle.definition.specs.Lists.{stack}
use Rattle.definition.specs.Sweeping.{roots}
use Rattle.definition.specs.Tables.{frame_in}
use Rattle.sweeping.specs.Marking.{work, mark_all, roots_of}
use Rattle.sweeping.proofs.marking.mark_frames.Given as goal

abbrev pub invariant-loop-i : goal.invariant-loop-i
invariant-loop-i l = (mark_all (work l.marks l.list l.size) (roots (stack (frame_in l.frames l.task) l.i)) ≡ mark_all (work l.initial.marks l.initial.list l.n) (roots_of l.counts l.frames l.task)) × (length l.marks ≡ length l.initial.marks) × (length l.list ≡ length l.initial.list)
