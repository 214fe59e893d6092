-- The roots of both tasks are marked, then the work list is gone through.
use native.Mathlib.Omega.{arith}
use Rattle.sweeping.proofs.Laws.{few-kept, marked_by}
use Rattle.sweeping.proofs.marking.mark_reached.Goals as goal

pub follow_fields-requires : goal.follow_fields-requires
follow_fields-requires c =
    few-kept _ _ _ c.mark_frames-both.ensures (few-kept _ _ _ c.mark_frames-quote.ensures (omega arith))

pub returns : goal.returns
returns c =
    marked_by _ _ _ _ _ _ _ _ c.mark_frames-quote.ensures c.mark_frames-both.ensures c.follow_fields.ensures
