-- The operands below place i still are to be marked, and then as many are marked as from the last pushed on.
use mathlib.Core.Path.{◌∙◌, refl, sym}
use Rattle.definition.specs.Tables.{operand_at}
use Rattle.sweeping.proofs.Laws.{stack-turn, stack-end}
use Rattle.sweeping.proofs.marking.mark_operands.Goals as goal

pub loop-i-preserved : goal.loop-i-preserved
unfolding operand_at
loop-i-preserved c =
    (stack-turn (operand_at c.args.frames.now c.args.b) _ _ _ c.mark_value-size.ensures _ c.loop-i-test.true refl ∙ c.loop-i.invariant.0, c.mark_value-size.auto.marks ∙ c.loop-i.invariant.1, c.mark_value-size.auto.list ∙ c.loop-i.invariant.2)

pub returns : goal.returns
returns c = sym (stack-end _ _ _ c.loop-i-test.false) ∙ c.loop-i.invariant.0
