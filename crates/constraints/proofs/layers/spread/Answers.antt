-- Layer after layer was found; the search ends where one is empty, or after as many as the limit says.
use mathlib.Core.Path.{refl}
use native.Mathlib.Omega.{arith}
use Rattle.constraints.proofs.Spreading.{spreads-first, spreads-next, spreads-far, spreads-all}
use Rattle.constraints.proofs.layers.spread.Goals as goal

pub loop-low-init : goal.loop-low-init
loop-low-init c = spreads-first _ _ _ _ _ _ c.requires.1

pub returns-then-limit-n : goal.returns-then-limit-n
returns-then-limit-n c = spreads-far _ _ _ _ _ _ _ _ _ c.loop-low.invariant c.if-limit-n.true

pub loop-low-preserved : goal.loop-low-preserved
loop-low-preserved c =
    spreads-next _ _ _ _ _ _ _ _ _ _ _ refl c.requires.0.in_range.from c.loop-low.invariant c.loop-low-test.true (omega (arith, c.if-limit-n.false)) c.next_layer-tail.ensures

pub returns : goal.returns
returns c = spreads-all _ _ _ _ _ _ _ _ _ c.loop-low.invariant c.loop-low-test.false
