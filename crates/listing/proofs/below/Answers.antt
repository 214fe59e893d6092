-- Three cells.
use Rattle.definition.specs.Tables.{subtype_at}
use Rattle.listing.proofs.below.Goals as goal

pub returns : goal.returns
unfolding subtype_at
returns c = rw (c.at.ensures, c.at-2.ensures, c.at-3.ensures)
