-- A cell of the row.
use Rattle.definition.specs.Tables.{level_at}
use Rattle.store.proofs.trace.entries_left.Goals as goal

pub returns : goal.returns
unfolding level_at
returns c = rw (c.at.ensures, c.from.ensures)
