-- The file ends at its start and its size.
use Rattle.definition.specs.Tables.{class_row_at}
use Rattle.store.specs.Tracing.{file_end}
use Rattle.store.proofs.trace.file_end.Goals as goal

pub returns : goal.returns
unfolding file_end class_row_at
returns c = rw (c.from.ensures, c.at.ensures, c.from-2.ensures, c.at-2.ensures, c.from-place.ensures)
