-- The number that stands beside the root's row.
use Rattle.definition.specs.Tables.{number_at}
use Rattle.groups.proofs.numbered.root_number.Goals as goal

pub returns : goal.returns
unfolding number_at
returns c = rw c.from.ensures at c.at.ensures
