use native.Mathlib.Omega.{arith}
use Rattle.constraints.proofs.Spreading.{seeded-none, seeds-next, seeds-end}
use Rattle.constraints.proofs.layers.seed.Goals as goal

pub loop-q-init : goal.loop-q-init
loop-q-init c = λ ways l. seeded-none _ _ _ _ _ _ ways _ c.requires.1 c.requires.2 l

pub loop-q-preserved : goal.loop-q-preserved
loop-q-preserved c =
    seeds-next _ _ _ _ _ _ _ _ _ _ _ _ (omega (arith, c.loop-q-test.true, c.requires.0)) c.loop-q.invariant c.seed_one-tail.ensures

pub returns : goal.returns
returns c ways l = seeds-end _ _ _ _ _ _ _ _ _ _ (omega arith) c.loop-q-test.false c.loop-q.invariant ways l
