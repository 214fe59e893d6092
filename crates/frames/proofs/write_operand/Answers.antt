-- An operand, counted from the lowest, is written into its two cells in the frame's row.
use mathlib.Core.Path.{sym}
use Rattle.definition.specs.Tables.{put_operand}
use Rattle.layout.specs.Cells.{put_value-cells}
use Rattle.frames.proofs.write_operand.Goals as goal

pub returns : goal.returns
unfolding put_operand
returns c = rw (c.write_pair.ensures) (sym (put_value-cells _ _ _ _))
