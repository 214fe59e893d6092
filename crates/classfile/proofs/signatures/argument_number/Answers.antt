-- The count stands two bytes after the record's place.
use Rattle.classfile.specs.Reading.{argument_number}
use Rattle.classfile.proofs.signatures.argument_number.Goals as goal

pub returns : goal.returns
unfolding argument_number
returns c = c.at.ensures
