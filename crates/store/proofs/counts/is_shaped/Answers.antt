-- The lengths are compared one after the other.
use mathlib.Core.Path.{◌∙◌, sym}
use borrow.Author.Tests.{eq-eqb, ne_eqb}
use Rattle.definition.specs.Tables.{shaped}
use Rattle.classfile.specs.Lists.{every-fails, every_first, every-last}
use Rattle.store.proofs.counts.is_shaped.Goals as goal

pub returns-then-counts-ne-COUNTS_LENGTH : goal.returns-then-counts-ne-COUNTS_LENGTH
unfolding shaped
returns-then-counts-ne-COUNTS_LENGTH c = sym (every-fails _ _ (ne_eqb _ _ c.if-counts-ne-COUNTS_LENGTH.true))

pub returns-then-classes-ne-CLASSES_LENGTH : goal.returns-then-classes-ne-CLASSES_LENGTH
unfolding shaped
returns-then-classes-ne-CLASSES_LENGTH c = sym (every_first _ _ (eq-eqb _ _ c.if-counts-ne-COUNTS_LENGTH.false) ∙ (every-fails _ _ (ne_eqb _ _ c.if-classes-ne-CLASSES_LENGTH.true)))

pub returns-then-kept-ne-KEPT_LENGTH : goal.returns-then-kept-ne-KEPT_LENGTH
unfolding shaped
returns-then-kept-ne-KEPT_LENGTH c = sym (every_first _ _ (eq-eqb _ _ c.if-counts-ne-COUNTS_LENGTH.false) ∙ (every_first _ _ (eq-eqb _ _ c.if-classes-ne-CLASSES_LENGTH.false) ∙ (every-fails _ _ (ne_eqb _ _ c.if-kept-ne-KEPT_LENGTH.true))))

pub returns-then-cache-ne-CACHE_LENGTH : goal.returns-then-cache-ne-CACHE_LENGTH
unfolding shaped
returns-then-cache-ne-CACHE_LENGTH c = sym (every_first _ _ (eq-eqb _ _ c.if-counts-ne-COUNTS_LENGTH.false) ∙ (every_first _ _ (eq-eqb _ _ c.if-classes-ne-CLASSES_LENGTH.false) ∙ (every_first _ _ (eq-eqb _ _ c.if-kept-ne-KEPT_LENGTH.false) ∙ (every-fails _ _ (ne_eqb _ _ c.if-cache-ne-CACHE_LENGTH.true)))))

pub returns-then-ties-ne-TIES_LENGTH : goal.returns-then-ties-ne-TIES_LENGTH
unfolding shaped
returns-then-ties-ne-TIES_LENGTH c = sym (every_first _ _ (eq-eqb _ _ c.if-counts-ne-COUNTS_LENGTH.false) ∙ (every_first _ _ (eq-eqb _ _ c.if-classes-ne-CLASSES_LENGTH.false) ∙ (every_first _ _ (eq-eqb _ _ c.if-kept-ne-KEPT_LENGTH.false) ∙ (every_first _ _ (eq-eqb _ _ c.if-cache-ne-CACHE_LENGTH.false) ∙ (every-fails _ _ (ne_eqb _ _ c.if-ties-ne-TIES_LENGTH.true))))))

pub returns-then-subtypes-ne-SUBTYPES_LENGTH : goal.returns-then-subtypes-ne-SUBTYPES_LENGTH
unfolding shaped
returns-then-subtypes-ne-SUBTYPES_LENGTH c = sym (every_first _ _ (eq-eqb _ _ c.if-counts-ne-COUNTS_LENGTH.false) ∙ (every_first _ _ (eq-eqb _ _ c.if-classes-ne-CLASSES_LENGTH.false) ∙ (every_first _ _ (eq-eqb _ _ c.if-kept-ne-KEPT_LENGTH.false) ∙ (every_first _ _ (eq-eqb _ _ c.if-cache-ne-CACHE_LENGTH.false) ∙ (every_first _ _ (eq-eqb _ _ c.if-ties-ne-TIES_LENGTH.false) ∙ (every-fails _ _ (ne_eqb _ _ c.if-subtypes-ne-SUBTYPES_LENGTH.true)))))))

pub returns-then-objects-ne-OBJECTS_LENGTH : goal.returns-then-objects-ne-OBJECTS_LENGTH
unfolding shaped
returns-then-objects-ne-OBJECTS_LENGTH c = sym (every_first _ _ (eq-eqb _ _ c.if-counts-ne-COUNTS_LENGTH.false) ∙ (every_first _ _ (eq-eqb _ _ c.if-classes-ne-CLASSES_LENGTH.false) ∙ (every_first _ _ (eq-eqb _ _ c.if-kept-ne-KEPT_LENGTH.false) ∙ (every_first _ _ (eq-eqb _ _ c.if-cache-ne-CACHE_LENGTH.false) ∙ (every_first _ _ (eq-eqb _ _ c.if-ties-ne-TIES_LENGTH.false) ∙ (every_first _ _ (eq-eqb _ _ c.if-subtypes-ne-SUBTYPES_LENGTH.false) ∙ (every-fails _ _ (ne_eqb _ _ c.if-objects-ne-OBJECTS_LENGTH.true))))))))

pub returns : goal.returns
unfolding shaped
returns c = sym (every_first _ _ (eq-eqb _ _ c.if-counts-ne-COUNTS_LENGTH.false) ∙ (every_first _ _ (eq-eqb _ _ c.if-classes-ne-CLASSES_LENGTH.false) ∙ (every_first _ _ (eq-eqb _ _ c.if-kept-ne-KEPT_LENGTH.false) ∙ (every_first _ _ (eq-eqb _ _ c.if-cache-ne-CACHE_LENGTH.false) ∙ (every_first _ _ (eq-eqb _ _ c.if-ties-ne-TIES_LENGTH.false) ∙ (every_first _ _ (eq-eqb _ _ c.if-subtypes-ne-SUBTYPES_LENGTH.false) ∙ (every_first _ _ (eq-eqb _ _ c.if-objects-ne-OBJECTS_LENGTH.false) ∙ (every-last _))))))))
