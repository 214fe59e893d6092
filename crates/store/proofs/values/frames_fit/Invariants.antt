use mathlib.Core.Path.{◌≡◌}
use Prim.Native.Nat.{◌≤◌}
use Rattle.definition.specs.Lists.{all, stack}
use Rattle.definition.specs.Tables.{frame_in}
use Rattle.store.specs.Checks.{exists, frame_fit, frames_fit}
use Rattle.store.proofs.values.frames_fit.Given as goal

abbrev pub invariant-loop-i : goal.invariant-loop-i
invariant-loop-i l = (l.i ≤ 32) × (all (frame_fit l.classes (exists l.counts l.made)) (stack (frame_in l.frames l.task) l.i) ≡ frames_fit l.counts l.frames l.task)
