-- The byte with the field count stands at place 7.
use Rattle.classfile.specs.Reading.{field_count}
use Rattle.classfile.proofs.fields.field_count.Goals as goal

pub returns : goal.returns
unfolding field_count
returns c = c.at.ensures
