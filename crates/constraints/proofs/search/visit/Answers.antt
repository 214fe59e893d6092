-- A group that is not marked yet has room in the queue, since no more groups are queued than are marked.
use Prim.Native.Nat.{◌<◌}
use native.Mathlib.Omega.{arith}
use Rattle.constraints.proofs.Searching.{visit-low, visit-new, room}
use Rattle.constraints.proofs.search.visit.Goals as goal

pub returns-then-group-stop : goal.returns-then-group-stop
returns-then-group-stop c = let pre = c.requires in visit-low _ _ _ _ _ _ pre.2 pre.0 c.if-marks-group.false (omega (arith, c.if-group-stop.true))

pub offset_bounds-queue-tail : goal.offset_bounds-queue-tail
offset_bounds-queue-tail c =
    let args = c.args in
    let pre = c.requires in
    let low : args.tail < 1280 = room args.stop args.stamp args.group args.marks.now args.queue.now args.tail pre.2 pre.0 c.if-marks-group.false in
    omega (arith, pre.2.queue_long)

pub bounds-queue-tail : goal.bounds-queue-tail
bounds-queue-tail c =
    let args = c.args in
    let pre = c.requires in
    let low : args.tail < 1280 = room args.stop args.stamp args.group args.marks.now args.queue.now args.tail pre.2 pre.0 c.if-marks-group.false in
    omega (arith, pre.2.queue_long)

pub overflow_add-result : goal.overflow_add-result
overflow_add-result c =
    let args = c.args in
    let pre = c.requires in
    let low : args.tail < 1280 = room args.stop args.stamp args.group args.marks.now args.queue.now args.tail pre.2 pre.0 c.if-marks-group.false in
    omega (arith, pre.2.queue_long)

pub returns : goal.returns
returns c = let pre = c.requires in visit-new _ _ _ _ _ _ pre.2 pre.0 c.if-marks-group.false
