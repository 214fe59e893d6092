-- Before local i is tested, the locals from i on fit exactly if all do.
use mathlib.Core.Path.{◌∙◌, sym}
use native.Mathlib.Omega.{arith}
use Rattle.definition.specs.Tables.{local_at, value_at}
use Rattle.layout.specs.Places.{rows_end, rows-hit, rows_on}
use Rattle.store.proofs.values.locals_fit.Goals as goal

pub returns-then-not-local_fits : goal.returns-then-not-local_fits
unfolding local_at value_at
returns-then-not-local_fits c = sym (rows-hit _ (local_at c.args.frames.now c.args.b) _ _ c.loop-i-test.true (rw (← c.from.ensures) (sym c.local_fits.ensures ∙ c.if-not-local_fits.true))) ∙ c.loop-i.invariant.1

pub loop-i-preserved : goal.loop-i-preserved
unfolding local_at value_at
loop-i-preserved c = (omega arith, sym (rows_on _ (local_at c.args.frames.now c.args.b) _ _ c.loop-i-test.true (rw (← c.from.ensures) (sym c.local_fits.ensures ∙ c.if-not-local_fits.false))) ∙ c.loop-i.invariant.1)

pub returns : goal.returns
returns c = sym (rows_end _ _ _ _ c.loop-i-test.false) ∙ c.loop-i.invariant.1
