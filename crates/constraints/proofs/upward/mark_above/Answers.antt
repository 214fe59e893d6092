use Rattle.constraints.proofs.Supers.{raising-start, raising-next, height-falls}
use Rattle.constraints.proofs.upward.mark_above.Goals as goal

pub loop-next-init : goal.loop-next-init
loop-next-init c =
    let above = c.above-next in
    raising-start _ _ _ _ _ c.requires.0 c.requires.1 (rw c.place.ensures.0 at above.ensures.is) (λ p e. rw e at above.ensures.few)

pub loop-next-smaller : goal.loop-next-smaller
loop-next-smaller c = height-falls _ _ _ _ c.in-Some.is c.above-next-in-Some.ensures.is

pub loop-next-preserved : goal.loop-next-preserved
loop-next-preserved c =
    let above = c.above-next-in-Some in
    rw c.put.ensures (raising-next _ _ _ _ _ _ _ c.in-Some.is c.loop-next.invariant above.ensures.is (λ p e. rw e at above.ensures.few))
