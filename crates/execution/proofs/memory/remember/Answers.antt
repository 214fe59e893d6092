-- The tag and the fact are written at the index of the place.
use Rattle.execution.proofs.memory.remember.Goals as goal

pub returns : goal.returns
returns c = (rw (c.put.ensures, c.index_of-i.ensures, c.tag_of.ensures), rw (c.put-2.ensures, c.index_of-i.ensures))
