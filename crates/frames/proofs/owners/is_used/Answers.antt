-- A number is used just if it is below the object count and its row has an owner.
use borrow.Author.Tests.{lt-ltb, le-ltb}
use Rattle.definition.specs.Instructions.{pick}
use Rattle.frames.specs.Unused.{is_used}
use Rattle.frames.proofs.owners.is_used.Goals as goal

pub returns-then-o-from : goal.returns-then-o-from
unfolding is_used pick
returns-then-o-from c = rw (lt-ltb _ _ (rw (c.from.ensures, c.at.ensures) at c.if-o-from.true), c.owner.ensures)

pub returns-else-o-from : goal.returns-else-o-from
unfolding is_used pick
returns-else-o-from c = rw (le-ltb _ _ (rw (c.from.ensures, c.at.ensures) at c.if-o-from.false)) (le-ltb _ _ c.if-o-from.false)
