-- The name begins at the record's place.
use Rattle.classfile.specs.Reading.{quick_signature, method_at}
use Rattle.classfile.proofs.signatures.method_name.Goals as goal

pub returns : goal.returns
unfolding method_at quick_signature
returns c = c.short_at.ensures
