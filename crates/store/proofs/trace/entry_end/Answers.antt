-- The class stands in the row's third cell.
use Rattle.definition.specs.Tables.{entry_at}
use Rattle.store.specs.Tracing.{entry_end}
use Rattle.store.proofs.trace.entry_end.Goals as goal

pub returns : goal.returns
unfolding entry_end entry_at
returns c = rw (c.from-2.ensures, c.at.ensures, c.from.ensures)
