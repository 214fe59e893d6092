-- The class stands in the row's first cell.
use Rattle.definition.specs.Tables.{frame_at, frame_in, frame_of}
use Rattle.store.specs.Tracing.{frame_end}
use Rattle.store.proofs.trace.frame_end.Goals as goal

pub returns : goal.returns
unfolding frame_end frame_in frame_at frame_of
returns c = rw (c.at.ensures, c.from.ensures, c.from-2.ensures)
