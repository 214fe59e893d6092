-- The operand count stands after the offset and the local types.
use Rattle.classfile.specs.Reading.{map_depth}
use Rattle.classfile.proofs.maps.map_depth.Goals as goal

pub returns : goal.returns
unfolding map_depth
returns c = c.at.ensures
