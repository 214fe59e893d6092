use mathlib.Core.Path.{◌∙◌, ap, sym}
use Rattle.definition.specs.Broken.{tie_fits}
use Rattle.definition.specs.Lists.{all}
use Rattle.layout.specs.Places.{rows_start, rows_end, rows-hit, rows_on}
use Rattle.groups.proofs.grouping.rows_fit.Goals as goal

pub loop-i-init : goal.loop-i-init
loop-i-init c = ap (all tie_fits) (rows_start _ _)

pub returns-then-not-row_fits : goal.returns-then-not-row_fits
returns-then-not-row_fits c = sym (rows-hit _ _ _ _ c.loop-i-test.true (sym c.row_fits.ensures ∙ c.if-not-row_fits.true)) ∙ c.loop-i.invariant

pub loop-i-preserved : goal.loop-i-preserved
loop-i-preserved c = sym (rows_on _ _ _ _ c.loop-i-test.true (sym c.row_fits.ensures ∙ c.if-not-row_fits.false)) ∙ c.loop-i.invariant

pub returns : goal.returns
returns c = sym (rows_end _ _ _ _ c.loop-i-test.false) ∙ c.loop-i.invariant
