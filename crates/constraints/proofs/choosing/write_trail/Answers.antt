use native.Mathlib.Omega.{arith}
use Rattle.constraints.proofs.Choices.{written_none, written-more, written_all}
use Rattle.constraints.proofs.choosing.write_trail.Goals as goal

pub loop-i-init : goal.loop-i-init
loop-i-init c = written_none _ _ _ _ _ c.args.best.now

pub loop-i-preserved : goal.loop-i-preserved
loop-i-preserved c =
    let loop = c.loop-i in
    rw c.put.ensures
    (written-more _ _ _ _ _ loop.best _ _ _ _ _ c.loop-i-test.true (omega arith) c.place-way.ensures.0 c.at.ensures c.place-here.ensures.0 loop.invariant)

pub returns : goal.returns
returns c = written_all _ _ _ _ _ c.loop-i.best _ _ (omega arith) c.loop-i-test.false c.loop-i.invariant
