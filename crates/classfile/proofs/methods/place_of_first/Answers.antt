-- Before record i is passed, its place is known.
use Rattle.classfile.proofs.Laws.{placed-next}
use Rattle.classfile.proofs.methods.place_of_first.Goals as goal

pub loop-i-preserved : goal.loop-i-preserved
loop-i-preserved c = placed-next _ _ _ _ c.loop-i.invariant c.next_first-place.ensures.0 c.next_first-place.ensures.1
