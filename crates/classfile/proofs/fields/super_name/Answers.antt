-- The superclass name stands at place 5.
use Rattle.classfile.specs.Reading.{super_name}
use Rattle.classfile.proofs.fields.super_name.Goals as goal

pub returns : goal.returns
unfolding super_name
returns c = c.short_at.ensures
