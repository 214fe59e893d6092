-- The local types stand after the offset.
use Rattle.classfile.specs.Reading.{type_at}
use Rattle.classfile.proofs.maps.map_local.Goals as goal

pub returns : goal.returns
unfolding type_at
returns c = rw (← c.from.ensures) c.short_at.ensures
