-- The byte with the method count stands where a field after the last would.
use Rattle.classfile.specs.Reading.{method_count}
use Rattle.classfile.proofs.methods.method_count.Goals as goal

pub returns : goal.returns
unfolding method_count
returns c = rw (← c.field_count.ensures, ← c.field_place.ensures.0) c.at.ensures
