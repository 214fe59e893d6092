-- The count is the first byte.
use Rattle.classfile.specs.Reading.{map_count}
use Rattle.classfile.proofs.maps.map_count.Goals as goal

pub returns : goal.returns
unfolding map_count
returns c = c.at.ensures
