-- The object count is written, and then the row's owner: 1 and the task.
use native.Mathlib.Numerals.{add-one}
use Rattle.execution.proofs.carrying.take_row.Goals as goal

pub returns : goal.returns
returns c = rw (c.write_owner.ensures, c.put.ensures, c.rows_with.ensures, c.at-n.ensures, c.from.ensures, c.from-2.ensures, add-one)
