-- The loop: i cells are written.
use native.Mathlib.Omega.{arith}
use mathlib.Core.Path.{refl, ◌∙◌}
use Rattle.host.specs.Findings.{writing_start, writing_more, writing-end}
use Rattle.host.proofs.report_order.Goals as goal

pub loop-i-init : goal.loop-i-init
loop-i-init c = (writing_start _ _ _, refl)

pub loop-i-preserved : goal.loop-i-preserved
loop-i-preserved c = (writing_more _ _ _ _ _ _ _ _ c.loop-i.invariant.0 c.loop-i-test.true c.next_offer.ensures c.put.ensures, c.put.auto.t ∙ c.loop-i.invariant.1)

pub shape_of-answer : goal.shape_of-answer
shape_of-answer c = c.loop-i.invariant.1

pub returns : goal.returns
returns c = writing-end _ _ _ _ _ _ c.loop-i.invariant.0 c.loop-i-test.false
