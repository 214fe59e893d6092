-- The operands below place i fit, and with them all, exactly if those from the lowest to the last pushed do.
use mathlib.Core.Path.{◌∙◌, sym}
use native.Mathlib.Omega.{arith}
use Rattle.definition.specs.Tables.{operand_at, value_at}
use Rattle.layout.specs.Places.{stack-end, stack-hit, stack-on}
use Rattle.store.proofs.values.operands_fit.Goals as goal

pub returns-then-not-value_fits : goal.returns-then-not-value_fits
unfolding operand_at value_at
returns-then-not-value_fits c = sym (stack-hit _ (operand_at c.args.frames.now c.args.b) _ c.loop-i-test.true (sym c.value_fits.ensures ∙ c.if-not-value_fits.true)) ∙ c.loop-i.invariant.1

pub loop-i-preserved : goal.loop-i-preserved
unfolding operand_at value_at
loop-i-preserved c = (omega (arith, c.loop-i.invariant.0), sym (stack-on _ (operand_at c.args.frames.now c.args.b) _ c.loop-i-test.true (sym c.value_fits.ensures ∙ c.if-not-value_fits.false)) ∙ c.loop-i.invariant.1)

pub returns : goal.returns
returns c = sym (stack-end _ _ _ (omega (arith, c.loop-i-test.false))) ∙ c.loop-i.invariant.1
