-- The links that lead to the node, from `follow` on, were looked at.
use Prim.Native.Nat.{◌-◌}
use native.Mathlib.Omega.{arith}
use Rattle.constraints.proofs.Spreading.{looking-none, looking-one, looking-sized}
use Rattle.constraints.proofs.layers.look_back.Goals as goal

pub loop-follow-init : goal.loop-follow-init
loop-follow-init c =
    let pre = c.requires in
    looking-none _ _ _ _ _ _ _ (rw c.place-follow.ensures.0 (pre.2.joined.head c.args.node pre.0))

pub look_at-queued-requires : goal.look_at-queued-requires
look_at-queued-requires c =
    let pre = c.requires in
    let loop = c.loop-follow in
    let z = looking-sized _ _ _ _ _ _ _ _ pre.1 pre.2.in_range.from pre.3 loop.invariant in
    (omega (arith, loop.invariant.high, pre.2.in_range.few, c.loop-follow-test.true), omega (arith, z.room.few))

pub loop-follow-preserved : goal.loop-follow-preserved
loop-follow-preserved c =
    let loop = c.loop-follow in
    let test = c.loop-follow-test in
    let n = c.requires.2.joined.next (loop.follow - 1) (omega (arith, loop.invariant.high, test.true)) in
    rw c.place-follow-in-loop-follow.ensures.0 (looking-one _ _ _ _ _ _ _ _ _ (omega (arith, test.true)) n loop.invariant c.look_at-queued.ensures)
