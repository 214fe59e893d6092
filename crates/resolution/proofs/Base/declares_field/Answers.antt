-- A search of the file's fields that finds one says that there is one.
use Rattle.classfile.specs.Lists.{any-index}
use Rattle.resolution.specs.Quick.{optional-is}
use Rattle.resolution.proofs.Base.declares_field.Goals as goal

pub returns : goal.returns
returns c = rw (c.is_some.ensures, c.find_field.ensures, c.file_of.ensures, optional-is _, any-index _ _)
