-- The name begins at the field's place.
use Rattle.classfile.specs.Reading.{field_in}
use Rattle.classfile.proofs.fields.field_name.Goals as goal

pub returns : goal.returns
unfolding field_in
returns c = rw (← c.field_place.ensures.0) c.short_at.ensures
