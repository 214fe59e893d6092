-- The group's links from `follow` on were visited.
use Prim.Native.Nat.{◌-◌}
use native.Mathlib.Omega.{arith}
use Rattle.constraints.specs.Search.{start_of}
use Rattle.constraints.proofs.Searching.{expanding-one, expanding-all}
use Rattle.constraints.proofs.search.expand.Goals as goal

pub visit-queued-requires : goal.visit-queued-requires
unfolding start_of
visit-queued-requires c =
    let loop = c.loop-follow in
    let test = c.loop-follow-test in
    let pre = c.requires in
    (rw c.place-end.ensures.0 (pre.4 (loop.follow - 1) (omega (arith, loop.invariant.high, test.true))), pre.3, loop.invariant.queued)

pub loop-follow-preserved : goal.loop-follow-preserved
unfolding start_of
loop-follow-preserved c =
    let loop = c.loop-follow in
    let test = c.loop-follow-test in
    let pre = c.requires in
    let n = pre.5.next (loop.follow - 1) (omega (arith, loop.invariant.high, test.true)) in
    rw c.from-follow-in-loop-follow.ensures
    (expanding-one _ _ _ _ _ _ _ (omega (arith, test.true)) n loop.invariant (rw c.place-end.ensures.0 at c.visit-queued.ensures))

pub returns : goal.returns
returns c = expanding-all _ _ _ _ _ _ _ c.loop-follow-test.false c.loop-follow.invariant
