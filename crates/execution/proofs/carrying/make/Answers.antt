-- The new object's row is written, its number pushed, and its row taken.
use Rattle.definition.specs.Instructions.{pick}
use Rattle.definition.specs.Tables.{value_of}
use Rattle.execution.proofs.carrying.make.Goals as goal

pub returns-clause-pushed : goal.returns-clause-pushed
unfolding value_of pick
returns-clause-pushed c = rw (c.push.ensures, c.from-2.ensures)
