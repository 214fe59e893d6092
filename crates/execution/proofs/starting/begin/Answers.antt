-- The object's row, the first frame's row, the row's owner, and both counts; the arguments after the first are empty, as all locals behind it are.
use Rattle.definition.specs.Instructions.{pick}
use Rattle.definition.specs.Lists.{filled}
use Rattle.definition.specs.Tables.{value_of}
use Rattle.execution.proofs.starting.begin.Goals as goal

pub returns-clause-entered : goal.returns-clause-entered
unfolding value_of pick filled
returns-clause-entered c =
    rw (c.write_entry.ensures, c.row.ensures, c.from-2.ensures, c.empty.ensures, c.empty-2.ensures, c.empty-3.ensures)
