-- The frames below row i still are to be marked, and then as many are marked as from the top on.
use mathlib.Core.Path.{◌∙◌, sym}
use Rattle.definition.specs.Tables.{frame_in}
use Rattle.sweeping.proofs.Laws.{frames-turn, frames-end}
use Rattle.sweeping.proofs.marking.mark_frames.Goals as goal

pub loop-i-preserved : goal.loop-i-preserved
unfolding frame_in
loop-i-preserved c =
    (frames-turn (frame_in c.args.frames.now c.args.task) _ _ _ c.loop-i-test.true (rw (← c.from-first.ensures, ← c.from-in-loop-i.ensures) c.mark_frame-size.ensures) ∙ c.loop-i.invariant.0, c.mark_frame-size.auto.marks ∙ c.loop-i.invariant.1, c.mark_frame-size.auto.list ∙ c.loop-i.invariant.2)

pub returns : goal.returns
returns c = sym (frames-end _ _ _ c.loop-i-test.false) ∙ c.loop-i.invariant.0
