-- From version 2 on, before record i is passed, its place is known.
use Rattle.classfile.proofs.Laws.{placed-next}
use Rattle.classfile.proofs.methods.place_of.Goals as goal

pub loop-i-preserved : goal.loop-i-preserved
loop-i-preserved c = placed-next _ _ _ _ c.loop-i.invariant c.next_later-place.ensures.0 c.next_later-place.ensures.1
