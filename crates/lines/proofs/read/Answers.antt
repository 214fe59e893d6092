-- The line's command is read, with its file.
use Rattle.lines.specs.Asked.{heard}
use Rattle.lines.proofs.read.Goals as goal

pub returns : goal.returns
returns c = heard _ _ _ _ c.read_line.ensures c.requires c.read_line.auto.file
