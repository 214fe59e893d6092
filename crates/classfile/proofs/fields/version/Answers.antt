-- The version byte stands first.
use Rattle.classfile.specs.Reading.{file_version}
use Rattle.classfile.proofs.fields.version.Goals as goal

pub returns : goal.returns
unfolding file_version
returns c = c.at.ensures
