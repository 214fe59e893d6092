-- Before row i - 1 is compared, it and those below it fall exactly if all do.
use mathlib.Core.Path.{sym, ◌∙◌}
use native.Mathlib.Omega.{arith}
use Rattle.store.specs.Tracing.{falling-none, falls-fail, falls-on}
use Rattle.store.proofs.trace.levels_fall.Goals as goal

pub returns-then-not-is_under : goal.returns-then-not-is_under
returns-then-not-is_under c = falls-fail _ _ _ _ _ _ c.loop-i.invariant.1 c.loop-i-test.true c.from.ensures c.is_under.ensures c.if-not-is_under.true

pub loop-i-preserved : goal.loop-i-preserved
loop-i-preserved c = (omega arith, falls-on _ _ _ _ _ _ c.loop-i.invariant.1 c.loop-i-test.true c.from.ensures c.is_under.ensures c.if-not-is_under.false)

pub returns : goal.returns
returns c = sym (falling-none _ _ _ c.loop-i-test.false) ∙ c.loop-i.invariant.1
