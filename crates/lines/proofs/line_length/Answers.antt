use native.Mathlib.Omega.{arith}
use Rattle.lines.specs.Ready.{length-here, length-later, length-end}
use Rattle.lines.proofs.line_length.Goals as goal

pub returns-then-b-eq10 : goal.returns-then-b-eq10
returns-then-b-eq10 c = omega (arith, c.loop-i.invariant, length-here c.args.s.now c.loop-i.i c.loop-i-test.true c.if-b-eq10.true)

pub loop-i-preserved : goal.loop-i-preserved
loop-i-preserved c = omega (arith, c.loop-i.invariant, length-later c.args.s.now c.loop-i.i c.loop-i-test.true c.if-b-eq10.false)

pub returns : goal.returns
returns c = omega (arith, c.loop-i.invariant, length-end c.args.s.now c.loop-i.i c.loop-i-test.false)
