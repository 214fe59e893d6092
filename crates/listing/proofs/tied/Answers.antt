-- Three cells.
use Rattle.definition.specs.Tables.{tie_at}
use Rattle.listing.proofs.tied.Goals as goal

pub returns : goal.returns
unfolding tie_at
returns c = rw (c.at.ensures, c.at-2.ensures, c.at-3.ensures)
