-- Object is tested first. Before the file of class c is tested, those from c on fit exactly if all do.
use mathlib.Core.Path.{◌∙◌, sym}
use native.Mathlib.Omega.{arith}
use Rattle.layout.specs.Places.{rows_end, rows-hit, rows_on}
use Rattle.store.proofs.Laws.{sources-none, sources-rest, sources-unfit}
use Rattle.store.proofs.sources.sources_fit.Goals as goal

pub returns-then-n-eq0 : goal.returns-then-n-eq0
returns-then-n-eq0 c = sym (sources-none _ _ _ _ (sym c.at-n.ensures ∙ c.if-n-eq0.true))

pub returns-then-not-is_object : goal.returns-then-not-is_object
returns-then-not-is_object c = sym (sources-unfit _ _ _ _ (omega (arith, c.at-n.ensures, c.if-n-eq0.false)) (sym c.is_object.ensures ∙ c.if-not-is_object.true))

pub loop-c-init : goal.loop-c-init
loop-c-init c = rw c.at-n.ensures (sym (sources-rest _ _ _ _ (omega (arith, c.at-n.ensures, c.if-n-eq0.false)) (sym c.is_object.ensures ∙ c.if-not-is_object.false)))

pub returns-then-not-file_fits : goal.returns-then-not-file_fits
returns-then-not-file_fits c = sym (rows-hit _ _ _ _ c.loop-c-test.true (sym c.file_fits.ensures ∙ c.if-not-file_fits.true)) ∙ c.loop-c.invariant

pub loop-c-preserved : goal.loop-c-preserved
loop-c-preserved c = sym (rows_on _ _ _ _ c.loop-c-test.true (sym c.file_fits.ensures ∙ c.if-not-file_fits.false)) ∙ c.loop-c.invariant

pub returns : goal.returns
returns c = sym (rows_end _ _ _ _ c.loop-c-test.false) ∙ c.loop-c.invariant
