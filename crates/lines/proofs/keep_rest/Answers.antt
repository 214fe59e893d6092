use mathlib.Core.Path.{◌∙◌}
use native.Mathlib.Omega.{arith}
use Rattle.lines.specs.Windows.{moved_none, moved_more, moved-min, moved_same}
use Rattle.lines.proofs.keep_rest.Goals as goal

pub loop-i-init : goal.loop-i-init
loop-i-init c = (omega arith, moved_none _ _, omega (arith, c.min-end.ensures))

pub loop-i-preserved : goal.loop-i-preserved
loop-i-preserved c = (omega arith, rw c.loop-i.invariant.1 (moved_more _ _ _ c.loop-i.auto.i (omega arith)), c.loop-i.invariant.2)

pub returns : goal.returns
returns c =
    c.loop-i.invariant.1 ∙ moved_same c.args.from c.loop-i.i c.min-end.result c.args.window.now (omega arith) ∙ rw c.min-end.ensures (moved-min _ _ _)
