-- Before row k is written, the rows below it have been.
use Rattle.entries.specs.Remembering.{moved-next, moved_none}
use Rattle.entries.proofs.trace.move_down.Goals as goal

pub loop-k-init : goal.loop-k-init
loop-k-init c = moved_none _

pub loop-k-preserved : goal.loop-k-preserved
loop-k-preserved c = rw (c.copy_level.ensures, c.from.ensures) (moved-next _ _ _ c.loop-k.invariant)
