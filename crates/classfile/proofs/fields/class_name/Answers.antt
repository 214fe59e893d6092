-- The class name stands at place 3.
use Rattle.classfile.specs.Reading.{class_name}
use Rattle.classfile.proofs.fields.class_name.Goals as goal

pub returns : goal.returns
unfolding class_name
returns c = c.short_at.ensures
