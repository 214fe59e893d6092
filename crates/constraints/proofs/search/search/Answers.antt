-- What is marked is led to, and the links of the request and of the first `done` queued groups were visited.
use native.Mathlib.Omega.{arith}
use Rattle.constraints.proofs.Searching.{searching-start, searching-one, none-marked, tail-low}
use Rattle.constraints.proofs.search.search.Goals as goal

pub loop-done-init : goal.loop-done-init
loop-done-init c =
    let args = c.args in
    let pre = c.requires in
    searching-start _ _ _ _ _ _ _ (none-marked args.stamp args.marks.now args.queue.now pre.3 pre.6 pre.7) c.expand-tail.ensures

pub offset_bounds-queue-done : goal.offset_bounds-queue-done
offset_bounds-queue-done c = omega (arith, tail-low c.loop-done.invariant.queued, c.loop-done-test.true)

pub bounds-queue-done : goal.bounds-queue-done
bounds-queue-done c = omega (arith, tail-low c.loop-done.invariant.queued, c.loop-done.invariant.queued.queue_long, c.loop-done-test.true)

pub loop-done-smaller : goal.loop-done-smaller
loop-done-smaller c = omega (arith, tail-low c.loop-done.invariant.queued, c.loop-done-test.true)

pub loop-done-preserved : goal.loop-done-preserved
loop-done-preserved c = searching-one _ _ _ _ _ _ _ c.loop-done-test.true c.loop-done.invariant (rw c.from-group.ensures at c.expand-tail-in-loop-done.ensures)
