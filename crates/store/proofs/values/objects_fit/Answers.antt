-- Before object o is tested, the objects from o on fit exactly if all do.
use mathlib.Core.Path.{◌∙◌, sym}
use native.Mathlib.Omega.{arith}
use Rattle.layout.specs.Places.{rows_end, rows-hit, rows_on}
use Rattle.store.proofs.values.objects_fit.Goals as goal

pub returns-then-not-object_fits : goal.returns-then-not-object_fits
returns-then-not-object_fits c = sym (rows-hit _ _ _ _ c.loop-o-test.true (sym c.object_fits.ensures ∙ c.if-not-object_fits.true)) ∙ c.loop-o.invariant.1

pub loop-o-preserved : goal.loop-o-preserved
loop-o-preserved c = (omega arith, sym (rows_on _ _ _ _ c.loop-o-test.true (sym c.object_fits.ensures ∙ c.if-not-object_fits.false)) ∙ c.loop-o.invariant.1)

pub returns : goal.returns
returns c = sym (rows_end _ _ _ _ c.loop-o-test.false) ∙ c.loop-o.invariant.1
