-- The tests are made one after the other.
use mathlib.Core.Path.{◌∙◌, sym}
use Rattle.classfile.specs.Lists.{every-fails, every_first, every-last}
use Rattle.store.specs.Checks.{readable}
use Rattle.store.proofs.brokenness.is_readable.Goals as goal

pub returns-then-not-is_shaped : goal.returns-then-not-is_shaped
unfolding readable
returns-then-not-is_shaped c = sym (every-fails _ _ (sym c.is_shaped.ensures ∙ c.if-not-is_shaped.true))

pub returns-then-not-are_within : goal.returns-then-not-are_within
unfolding readable
returns-then-not-are_within c = sym (every_first _ _ (sym c.is_shaped.ensures ∙ c.if-not-is_shaped.false) ∙ (every-fails _ _ (sym c.are_within.ensures ∙ c.if-not-are_within.true)))

pub returns-then-not-share_fits : goal.returns-then-not-share_fits
unfolding readable
returns-then-not-share_fits c = sym (every_first _ _ (sym c.is_shaped.ensures ∙ c.if-not-is_shaped.false) ∙ (every_first _ _ (sym c.are_within.ensures ∙ c.if-not-are_within.false) ∙ (every-fails _ _ (sym c.share_fits.ensures ∙ c.if-not-share_fits.true))))

pub returns-then-not-numbers_fit : goal.returns-then-not-numbers_fit
unfolding readable
returns-then-not-numbers_fit c = sym (every_first _ _ (sym c.is_shaped.ensures ∙ c.if-not-is_shaped.false) ∙ (every_first _ _ (sym c.are_within.ensures ∙ c.if-not-are_within.false) ∙ (every_first _ _ (sym c.share_fits.ensures ∙ c.if-not-share_fits.false) ∙ (every-fails _ _ (sym c.numbers_fit.ensures ∙ c.if-not-numbers_fit.true)))))

pub returns-then-not-sources_fit : goal.returns-then-not-sources_fit
unfolding readable
returns-then-not-sources_fit c = sym (every_first _ _ (sym c.is_shaped.ensures ∙ c.if-not-is_shaped.false) ∙ (every_first _ _ (sym c.are_within.ensures ∙ c.if-not-are_within.false) ∙ (every_first _ _ (sym c.share_fits.ensures ∙ c.if-not-share_fits.false) ∙ (every_first _ _ (sym c.numbers_fit.ensures ∙ c.if-not-numbers_fit.false) ∙ (every-fails _ _ (sym c.sources_fit.ensures ∙ c.if-not-sources_fit.true))))))

pub returns : goal.returns
unfolding readable
returns c = c.rows_fit.ensures ∙ sym (every_first _ _ (sym c.is_shaped.ensures ∙ c.if-not-is_shaped.false) ∙ (every_first _ _ (sym c.are_within.ensures ∙ c.if-not-are_within.false) ∙ (every_first _ _ (sym c.share_fits.ensures ∙ c.if-not-share_fits.false) ∙ (every_first _ _ (sym c.numbers_fit.ensures ∙ c.if-not-numbers_fit.false) ∙ (every_first _ _ (sym c.sources_fit.ensures ∙ c.if-not-sources_fit.false) ∙ (every-last _))))))
