-- An operand, counted from the lowest, is read from its two cells in the frame's row.
use Rattle.definition.specs.Tables.{operand_at}
use Rattle.frames.proofs.operand.Goals as goal

pub returns : goal.returns
unfolding operand_at
returns c = c.pair.ensures
