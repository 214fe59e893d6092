-- Before row i is tested, the rows from i on pass exactly if all do.
use mathlib.Core.Path.{◌∙◌, sym}
use native.Mathlib.Omega.{arith}
use Rattle.layout.specs.Places.{rows_end, rows-hit, rows_on}
use Rattle.store.proofs.sources.subtypes_fit.Goals as goal

pub returns-then-not-subtype_fits : goal.returns-then-not-subtype_fits
returns-then-not-subtype_fits c = sym (rows-hit _ _ _ _ c.loop-i-test.true (sym c.subtype_fits.ensures ∙ c.if-not-subtype_fits.true)) ∙ c.loop-i.invariant.1

pub loop-i-preserved : goal.loop-i-preserved
loop-i-preserved c = (omega arith, sym (rows_on _ _ _ _ c.loop-i-test.true (sym c.subtype_fits.ensures ∙ c.if-not-subtype_fits.false)) ∙ c.loop-i.invariant.1)

pub returns : goal.returns
returns c = sym (rows_end _ _ _ _ c.loop-i-test.false) ∙ c.loop-i.invariant.1
