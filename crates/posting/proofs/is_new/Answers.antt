-- Int is never new; any other name is new unless its tie is known.
use borrow.Author.Tests.{eq-eqb, ne_eqb}
use Rattle.posting.specs.Postings.{is_new}
use Rattle.posting.proofs.is_new.Goals as goal

pub returns-then-name-ne-NAME_INT : goal.returns-then-name-ne-NAME_INT
unfolding is_new
returns-then-name-ne-NAME_INT c = rw (ne_eqb _ _ c.if-name-ne-NAME_INT.true, ← c.tie_known.ensures)

pub returns-else-name-ne-NAME_INT : goal.returns-else-name-ne-NAME_INT
unfolding is_new
returns-else-name-ne-NAME_INT c = rw (eq-eqb _ _ c.if-name-ne-NAME_INT.false)
