use Rattle.definition.specs.Lists.{is_some}
use Rattle.script.specs.Files.{hexes-are, file-empty, file-odd, file-said}
use Rattle.script.proofs.files.is_file.Goals as goal
use Rattle.script.proofs.files.is_file.Goals.{then-n-eq0-via-then-n-eq0, then-n-eq0-via-else-n-eq0+then-n-ne0}

pub returns-then-n-eq0 : goal.returns-then-n-eq0
unfolding is_some
returns-then-n-eq0 c =
    elim c.then-n-eq0.branch [ then-n-eq0-via-then-n-eq0 w ↦ rw (file-empty _ w.if-n-eq0.true) | then-n-eq0-via-else-n-eq0+then-n-ne0 w ↦ rw (file-odd _ w.if-n-ne0.true) ]

pub returns : goal.returns
returns c = file-said _ _ c.if-n-eq0.false c.if-n-ne0.false (hexes-are _ _ c.are_digits.ensures)
