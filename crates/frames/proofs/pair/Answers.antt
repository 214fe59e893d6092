-- A value is read from two cells, its kind and then its bits; a cell past the end reads 0.
use Rattle.definition.specs.Tables.{value_at}
use Rattle.frames.proofs.pair.Goals as goal

pub returns : goal.returns
unfolding value_at
returns c = rw (c.at.ensures, c.at-2.ensures)
