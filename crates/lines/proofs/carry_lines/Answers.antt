-- Line by line: what the lines from place `read` on leave, with what was read and written before, is what the whole input leaves.
use Rattle.lines.specs.Told.{ready-reach, next-ready, told-begins, told-waits, told-full, told-ends, told-small, told-goes-on}
use Rattle.lines.specs.Windows.{part_length}
use mathlib.Core.Path.{◌∙◌}
use native.Mathlib.Omega.{arith}
use Rattle.lines.proofs.carry_lines.Goals as goal

pub loop-out-init : goal.loop-out-init
loop-out-init c =
    (omega arith, omega arith, told-begins _ _ _ _)

pub overflow_sub-out : goal.overflow_sub-out
overflow_sub-out c =
    c.loop-out.invariant.1

pub slice_bounds-next_line-count : goal.slice_bounds-next_line-count
slice_bounds-next_line-count c =
    omega (arith, c.loop-out.invariant.0)

pub slice_bounds-next_line-start : goal.slice_bounds-next_line-start
slice_bounds-next_line-start c =
    omega (arith, c.loop-out.invariant.0)

pub slice_bounds-next_line-end : goal.slice_bounds-next_line-end
slice_bounds-next_line-end c =
    omega (arith, c.loop-out.invariant.0)

pub returns-in_default : goal.returns-in_default
returns-in_default c =
    told-waits c.args.last c.args.input.now c.loop-out.read c.loop-out.written c.loop-out.out _ _ c.next_line.ensures c.in_default.is ∙ c.loop-out.invariant.2

pub overflow_add-end : goal.overflow_add-end
overflow_add-end c =
    let r = ready-reach c.args.last c.args.input.now c.loop-out.read c.in-Some.cut c.loop-out.invariant.0 (next-ready c.args.last c.args.input.now c.loop-out.read c.in-Some.cut _ c.next_line.ensures c.in-Some.is) in omega (arith, r.bytes, r.most)

pub slice_bounds-carry_out-count : goal.slice_bounds-carry_out-count
slice_bounds-carry_out-count c =
    let r = ready-reach c.args.last c.args.input.now c.loop-out.read c.in-Some.cut c.loop-out.invariant.0 (next-ready c.args.last c.args.input.now c.loop-out.read c.in-Some.cut _ c.next_line.ensures c.in-Some.is) in omega (arith, r.bytes, r.most)

pub slice_bounds-carry_out-start : goal.slice_bounds-carry_out-start
slice_bounds-carry_out-start c =
    let r = ready-reach c.args.last c.args.input.now c.loop-out.read c.in-Some.cut c.loop-out.invariant.0 (next-ready c.args.last c.args.input.now c.loop-out.read c.in-Some.cut _ c.next_line.ensures c.in-Some.is) in omega (arith, r.bytes, r.most)

pub slice_bounds-carry_out-end : goal.slice_bounds-carry_out-end
slice_bounds-carry_out-end c =
    let r = ready-reach c.args.last c.args.input.now c.loop-out.read c.in-Some.cut c.loop-out.invariant.0 (next-ready c.args.last c.args.input.now c.loop-out.read c.in-Some.cut _ c.next_line.ensures c.in-Some.is) in omega (arith, r.bytes, r.most)

pub slice_bounds-carry_out-count-in-loop-out : goal.slice_bounds-carry_out-count-in-loop-out
slice_bounds-carry_out-count-in-loop-out c =
    omega (arith, c.loop-out.invariant.1)

pub slice_bounds-carry_out-start-in-loop-out : goal.slice_bounds-carry_out-start-in-loop-out
slice_bounds-carry_out-start-in-loop-out c =
    omega (arith, c.loop-out.invariant.1)

pub slice_bounds-carry_out-end-in-loop-out : goal.slice_bounds-carry_out-end-in-loop-out
slice_bounds-carry_out-end-in-loop-out c =
    omega (arith, c.loop-out.invariant.1)

pub returns-in_default-carry_out : goal.returns-in_default-carry_out
returns-in_default-carry_out c =
    told-ends c.args.last c.args.input.now c.loop-out.read c.loop-out.written c.loop-out.out _ c.in-Some.cut (next-ready c.args.last c.args.input.now c.loop-out.read c.in-Some.cut _ c.next_line.ensures c.in-Some.is) c.loop-out-test.true _ _ _ c.carry_out.ensures c.in_default-carry_out.is ∙ c.loop-out.invariant.2

pub overflow_add-read : goal.overflow_add-read
overflow_add-read c =
    let r = ready-reach c.args.last c.args.input.now c.loop-out.read c.in-Some.cut c.loop-out.invariant.0 (next-ready c.args.last c.args.input.now c.loop-out.read c.in-Some.cut _ c.next_line.ensures c.in-Some.is) in omega (arith, r.most, c.well_formed)

pub overflow_add-written : goal.overflow_add-written
overflow_add-written c =
    let n = told-small c.args.last c.args.input.now c.loop-out.read c.loop-out.written c.loop-out.out _ c.in-Some.cut (next-ready c.args.last c.args.input.now c.loop-out.read c.in-Some.cut _ c.next_line.ensures c.in-Some.is) c.loop-out-test.true _ _ _ c.carry_out.ensures _ c.in-Some-carry_out.is in omega (arith, n, c.loop-out-test.true, c.loop-out.auto.out)

pub loop-out-smaller : goal.loop-out-smaller
loop-out-smaller c =
    let r = ready-reach c.args.last c.args.input.now c.loop-out.read c.in-Some.cut c.loop-out.invariant.0 (next-ready c.args.last c.args.input.now c.loop-out.read c.in-Some.cut _ c.next_line.ensures c.in-Some.is) in omega (arith, r.some, r.most)

pub loop-out-preserved : goal.loop-out-preserved
loop-out-preserved c =
    let r = ready-reach c.args.last c.args.input.now c.loop-out.read c.in-Some.cut c.loop-out.invariant.0 (next-ready c.args.last c.args.input.now c.loop-out.read c.in-Some.cut _ c.next_line.ensures c.in-Some.is) in
    let n = told-small c.args.last c.args.input.now c.loop-out.read c.loop-out.written c.loop-out.out _ c.in-Some.cut (next-ready c.args.last c.args.input.now c.loop-out.read c.in-Some.cut _ c.next_line.ensures c.in-Some.is) c.loop-out-test.true _ _ _ c.carry_out.ensures _ c.in-Some-carry_out.is in
    let w = part_length c.loop-out.written c.loop-out.out c.carry_out.new.out c.carry_out.auto.out in
    (omega (arith, r.most), omega (arith, n, w, c.loop-out-test.true, c.loop-out.invariant.1), told-goes-on c.args.last c.args.input.now c.loop-out.read c.loop-out.written c.loop-out.out _ c.in-Some.cut (next-ready c.args.last c.args.input.now c.loop-out.read c.in-Some.cut _ c.next_line.ensures c.in-Some.is) c.loop-out-test.true _ _ _ c.carry_out.ensures _ c.in-Some-carry_out.is ∙ c.loop-out.invariant.2)

pub returns-after-loop-out : goal.returns-after-loop-out
returns-after-loop-out c =
    told-full c.args.last c.args.input.now c.loop-out.read c.loop-out.written c.loop-out.out _ c.loop-out-test.false ∙ c.loop-out.invariant.2
