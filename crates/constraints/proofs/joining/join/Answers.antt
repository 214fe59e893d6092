use Prim.Native.Nat.{◌<◌}
use native.Mathlib.Omega.{arith}
use Rattle.constraints.specs.Search.{start_of}
use Rattle.constraints.proofs.Filling.{joined-more}
use Rattle.constraints.proofs.joining.join.Goals as goal

pub enter-requires : goal.enter-requires
unfolding start_of
enter-requires c =
    let loop = c.loop-e in
    let low : c.place.result < 1280 = rw c.place.ensures.0 (c.requires.2 loop.e c.loop-e-test.true) in
    (omega (arith, c.loop-e-test.true), omega (arith, loop.invariant.nexts_long, c.loop-e-test.true), omega (arith, loop.invariant.heads_long, low))

pub loop-e-preserved : goal.loop-e-preserved
unfolding start_of
loop-e-preserved c =
    let loop = c.loop-e in
    let low : c.place.result < 1280 = rw c.place.ensures.0 (c.requires.2 loop.e c.loop-e-test.true) in
    rw (c.enter.ensures.nexts_after, c.enter.ensures.heads_after) (joined-more _ _ _ _ _ c.place.ensures.0 low (omega (arith, c.loop-e-test.true)) loop.invariant)
