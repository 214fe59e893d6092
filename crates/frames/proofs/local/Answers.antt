-- A local is read from its two cells in the frame's row.
use Rattle.definition.specs.Tables.{local_at}
use Rattle.frames.proofs.local.Goals as goal

pub returns : goal.returns
unfolding local_at
returns c = rw (← c.from.ensures) c.pair.ensures
