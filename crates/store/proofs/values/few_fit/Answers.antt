-- Before field i is tested, the fields from i on fit exactly if all do.
use mathlib.Core.Path.{◌∙◌, sym}
use native.Mathlib.Omega.{arith}
use Rattle.definition.specs.Tables.{field_at, value_at}
use Rattle.layout.specs.Places.{rows_end, rows-hit, rows_on}
use Rattle.store.proofs.values.few_fit.Goals as goal

pub returns-then-not-value_fits : goal.returns-then-not-value_fits
unfolding field_at value_at
returns-then-not-value_fits c = sym (rows-hit _ (field_at c.args.objects.now c.args.o) _ _ c.loop-i-test.true (rw (← c.from-first.ensures, ← c.from.ensures) (sym c.value_fits.ensures ∙ c.if-not-value_fits.true))) ∙ c.loop-i.invariant.1

pub loop-i-preserved : goal.loop-i-preserved
unfolding field_at value_at
loop-i-preserved c = (omega arith, sym (rows_on _ (field_at c.args.objects.now c.args.o) _ _ c.loop-i-test.true (rw (← c.from-first.ensures, ← c.from.ensures) (sym c.value_fits.ensures ∙ c.if-not-value_fits.false))) ∙ c.loop-i.invariant.1)

pub returns : goal.returns
returns c = sym (rows_end _ _ _ _ c.loop-i-test.false) ∙ c.loop-i.invariant.1
