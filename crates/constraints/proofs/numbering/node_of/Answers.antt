-- Places behind `follow` have another number than p.
use Prim.Native.Nat.{◌-◌}
use native.Mathlib.Omega.{arith}
use Rattle.constraints.proofs.Filling.{follow-first, follow-next}
use Rattle.constraints.proofs.numbering.node_of.Goals as goal

pub loop-follow-init : goal.loop-follow-init
loop-follow-init c = follow-first _ _ c.requires.5

pub loop-follow-preserved : goal.loop-follow-preserved
loop-follow-preserved c =
    let test = c.loop-follow-test in
    rw c.from-follow.ensures
    (follow-next _ _ (omega (arith, test.true)) (c.requires.6 (c.loop-follow.follow - 1) (omega (arith, c.loop-follow.invariant.high, test.true))) c.if-numbers-q.false c.loop-follow.invariant)
