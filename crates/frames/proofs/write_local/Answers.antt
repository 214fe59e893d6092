-- A local is written into its two cells in the frame's row.
use mathlib.Core.Path.{sym}
use Rattle.definition.specs.Tables.{put_local}
use Rattle.layout.specs.Cells.{put_value-cells}
use Rattle.frames.proofs.write_local.Goals as goal

pub returns : goal.returns
unfolding put_local
returns c = rw (c.write_pair.ensures, c.from.ensures) (sym (put_value-cells _ _ _ _))
