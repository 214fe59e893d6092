-- The root of where the way has come to is that of the place.
use native.Mathlib.Omega.{arith}
use Rattle.groups.proofs.Rooting.{root-here, root-next}
use Rattle.groups.proofs.uniting.root.Goals as goal

pub loop-up-preserved : goal.loop-up-preserved
loop-up-preserved c =
    let loop = c.loop-up in
    (omega (arith, loop.invariant.0, c.loop-up-test.true), c.from-up-in-loop-up.ensures, λ r s. loop.invariant.2 r (root-next _ _ _ _ loop.invariant.1 c.loop-up-test.true s))

pub returns : goal.returns
returns c = c.loop-up.invariant.2 c.loop-up.at (root-here _ _ _ c.loop-up.invariant.1 c.loop-up-test.false)
