-- A row's owner is read behind the counts.
use Rattle.definition.specs.Tables.{owner_at}
use Rattle.frames.proofs.owners.owner.Goals as goal

pub returns : goal.returns
unfolding owner_at
returns c = c.at.ensures
