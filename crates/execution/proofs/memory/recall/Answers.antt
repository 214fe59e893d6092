-- Another tag means that nothing is remembered; the same tag, that the fact is.
use Rattle.execution.specs.Memory.{recalled-not, recalled-is}
use Rattle.execution.proofs.memory.recall.Goals as goal

pub returns-then-at-tag_of : goal.returns-then-at-tag_of
returns-then-at-tag_of c = recalled-not _ _ _ _ _ _ _ _ c.index_of-i.ensures c.at.ensures c.tag_of.ensures c.if-at-tag_of.true

pub returns : goal.returns
returns c = recalled-is _ _ _ _ _ _ _ _ c.index_of-i.ensures c.at.ensures c.tag_of.ensures c.if-at-tag_of.false _ c.at-2.ensures
