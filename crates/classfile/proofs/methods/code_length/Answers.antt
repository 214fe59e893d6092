-- The code length stands behind the result type.
use Rattle.classfile.specs.Reading.{code_length}
use Rattle.classfile.proofs.methods.code_length.Goals as goal

pub returns : goal.returns
unfolding code_length
returns c = rw (← c.result_place.ensures.0) c.short_at.ensures
