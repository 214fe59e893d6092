-- Before value i is marked, those from i on still are to be, and then as many are marked as from the first on.
use mathlib.Core.Path.{◌∙◌, sym}
use Rattle.sweeping.specs.Marking.{value_from}
use Rattle.sweeping.proofs.Laws.{values-turn, values-end}
use Rattle.sweeping.proofs.marking.mark_values.Goals as goal

pub loop-i-preserved : goal.loop-i-preserved
unfolding value_from
loop-i-preserved c =
    (values-turn (value_from c.args.table.now c.args.first) _ _ _ c.mark_value-size.ensures _ _ c.loop-i-test.true (rw c.from.ensures) ∙ c.loop-i.invariant.0, c.mark_value-size.auto.marks ∙ c.loop-i.invariant.1, c.mark_value-size.auto.list ∙ c.loop-i.invariant.2)

pub returns : goal.returns
returns c = sym (values-end _ _ _ _ c.loop-i-test.false) ∙ c.loop-i.invariant.0
