-- 16 bits are the byte at a place and the byte after it, the higher first; a byte past the end is 0.
use Rattle.definition.specs.Instructions.{short_at}
use Rattle.cells.proofs.short_at.Goals as goal

pub returns : goal.returns
unfolding short_at
returns c = rw (c.from-2.ensures, c.next.ensures, c.from.ensures, c.at.ensures)
