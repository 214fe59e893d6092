-- The widened numbers are the numbers.
use Rattle.execution.specs.Memory.{tag_of}
use Rattle.execution.proofs.memory.tag_of.Goals as goal

pub returns : goal.returns
unfolding tag_of
returns c = rw (c.from.ensures, c.from-2.ensures, c.from-3.ensures)
