use mathlib.Core.Path.{sym, ◌∙◌}
use Rattle.constraints.proofs.Choices.{goes-start, goes_none, goes_before, goes_after, goes-on}
use Rattle.constraints.proofs.choosing.goes_before.Goals as goal

pub loop-i-init : goal.loop-i-init
loop-i-init c = goes-start _ _ _ _ _ _

pub returns-then-comes_first : goal.returns-then-comes_first
returns-then-comes_first c =
    sym (goes_before _ _ _ _ _ _ _ _ _ _ c.loop-i-test.true c.place-way.ensures.0 c.at-row.ensures c.at-kept.ensures (sym c.comes_first.ensures ∙ c.if-comes_first.true)) ∙ c.loop-i.invariant

pub returns-then-comes_first-2 : goal.returns-then-comes_first-2
returns-then-comes_first-2 c =
    sym (goes_after _ _ _ _ _ _ _ _ _ _ c.loop-i-test.true c.place-way.ensures.0 c.at-row.ensures c.at-kept.ensures (sym c.comes_first-in-loop-i.ensures ∙ c.if-comes_first-2.true)) ∙ c.loop-i.invariant

pub loop-i-preserved : goal.loop-i-preserved
loop-i-preserved c =
    goes-on _ _ _ _ _ _ _ _ _ _ c.loop-i-test.true c.place-way.ensures.0 c.at-row.ensures c.at-kept.ensures _ c.place-here.ensures.0 (sym c.comes_first.ensures ∙ c.if-comes_first.false) (sym c.comes_first-in-loop-i.ensures ∙ c.if-comes_first-2.false) ∙ c.loop-i.invariant

pub returns : goal.returns
returns c = sym (goes_none _ _ _ _ _ _ _ c.loop-i-test.false) ∙ c.loop-i.invariant
