-- A row below the count is one of those counted; else it is the next.
use borrow.Author.Tests.{lt-ltb, le-ltb}
use Rattle.definition.specs.Instructions.{pick}
use Rattle.layout.specs.OwnedRows.{rows_with}
use Rattle.execution.proofs.carrying.rows_with.Goals as goal

pub returns-then-o-n : goal.returns-then-o-n
unfolding rows_with pick
returns-then-o-n c = rw (lt-ltb _ _ c.if-o-n.true)

pub returns-else-o-n : goal.returns-else-o-n
unfolding rows_with pick
returns-else-o-n c = rw (le-ltb _ _ c.if-o-n.false)
