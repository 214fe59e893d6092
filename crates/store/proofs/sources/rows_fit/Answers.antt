-- The three tables are tested one after the other.
use mathlib.Core.Path.{◌∙◌, sym}
use Rattle.classfile.specs.Lists.{every-fails, every_first, every-last}
use Rattle.store.specs.Checks.{rows_fit}
use Rattle.store.proofs.sources.rows_fit.Goals as goal

pub returns-then-not-entries_fit : goal.returns-then-not-entries_fit
unfolding rows_fit
returns-then-not-entries_fit c = sym (every-fails _ _ (sym c.entries_fit.ensures ∙ c.if-not-entries_fit.true))

pub returns-then-not-groups_fit : goal.returns-then-not-groups_fit
unfolding rows_fit
returns-then-not-groups_fit c = sym (every_first _ _ (sym c.entries_fit.ensures ∙ c.if-not-entries_fit.false) ∙ (every-fails _ _ (sym c.groups_fit.ensures ∙ c.if-not-groups_fit.true)))

pub returns : goal.returns
unfolding rows_fit
returns c = c.subtypes_fit.ensures ∙ sym (every_first _ _ (sym c.entries_fit.ensures ∙ c.if-not-entries_fit.false) ∙ (every_first _ _ (sym c.groups_fit.ensures ∙ c.if-not-groups_fit.false) ∙ (every-last _)))
