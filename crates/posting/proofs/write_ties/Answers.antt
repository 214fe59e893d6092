-- Nothing, or the rows of the names.
use Rattle.posting.specs.Postings.{to_post}
use Rattle.definition.specs.Lists.{write_rows}
use Rattle.posting.proofs.write_ties.Goals as goal

pub returns-in_default : goal.returns-in_default
unfolding to_post write_rows
returns-in_default c = rw c.in_default.is
