-- The counts are compared with their limits, one after the other.
use mathlib.Core.Path.{◌∙◌, sym}
use Rattle.definition.specs.Broken.{within}
use Rattle.classfile.specs.Lists.{every-fails, every_first, every-last}
use Rattle.store.proofs.counts.are_within.Goals as goal

pub returns-then-not-is_within : goal.returns-then-not-is_within
unfolding within
returns-then-not-is_within c = sym (every-fails _ _ (sym c.is_within.ensures ∙ c.if-not-is_within.true))

pub returns-then-not-is_within-2 : goal.returns-then-not-is_within-2
unfolding within
returns-then-not-is_within-2 c = sym (every_first _ _ (sym c.is_within.ensures ∙ c.if-not-is_within.false) ∙ (every-fails _ _ (sym c.is_within-2.ensures ∙ c.if-not-is_within-2.true)))

pub returns-then-not-is_within-3 : goal.returns-then-not-is_within-3
unfolding within
returns-then-not-is_within-3 c = sym (every_first _ _ (sym c.is_within.ensures ∙ c.if-not-is_within.false) ∙ (every_first _ _ (sym c.is_within-2.ensures ∙ c.if-not-is_within-2.false) ∙ (every-fails _ _ (sym c.is_within-3.ensures ∙ c.if-not-is_within-3.true))))

pub returns-then-not-is_within-4 : goal.returns-then-not-is_within-4
unfolding within
returns-then-not-is_within-4 c = sym (every_first _ _ (sym c.is_within.ensures ∙ c.if-not-is_within.false) ∙ (every_first _ _ (sym c.is_within-2.ensures ∙ c.if-not-is_within-2.false) ∙ (every_first _ _ (sym c.is_within-3.ensures ∙ c.if-not-is_within-3.false) ∙ (every-fails _ _ (sym c.is_within-4.ensures ∙ c.if-not-is_within-4.true)))))

pub returns-then-not-is_within-5 : goal.returns-then-not-is_within-5
unfolding within
returns-then-not-is_within-5 c =
    sym (every_first _ _ (sym c.is_within.ensures ∙ c.if-not-is_within.false) ∙ (every_first _ _ (sym c.is_within-2.ensures ∙ c.if-not-is_within-2.false) ∙ (every_first _ _ (sym c.is_within-3.ensures ∙ c.if-not-is_within-3.false) ∙ (every_first _ _ (sym c.is_within-4.ensures ∙ c.if-not-is_within-4.false) ∙ (every-fails _ _ (sym c.is_within-5.ensures ∙ c.if-not-is_within-5.true))))))

pub returns-then-not-is_within-6 : goal.returns-then-not-is_within-6
unfolding within
returns-then-not-is_within-6 c =
    sym (every_first _ _ (sym c.is_within.ensures ∙ c.if-not-is_within.false) ∙ (every_first _ _ (sym c.is_within-2.ensures ∙ c.if-not-is_within-2.false) ∙ (every_first _ _ (sym c.is_within-3.ensures ∙ c.if-not-is_within-3.false) ∙ (every_first _ _ (sym c.is_within-4.ensures ∙ c.if-not-is_within-4.false) ∙ (every_first _ _ (sym c.is_within-5.ensures ∙ c.if-not-is_within-5.false) ∙ (every-fails _ _ (sym c.is_within-6.ensures ∙ c.if-not-is_within-6.true)))))))

pub returns-then-not-is_within-7 : goal.returns-then-not-is_within-7
unfolding within
returns-then-not-is_within-7 c =
    sym (every_first _ _ (sym c.is_within.ensures ∙ c.if-not-is_within.false) ∙ (every_first _ _ (sym c.is_within-2.ensures ∙ c.if-not-is_within-2.false) ∙ (every_first _ _ (sym c.is_within-3.ensures ∙ c.if-not-is_within-3.false) ∙ (every_first _ _ (sym c.is_within-4.ensures ∙ c.if-not-is_within-4.false) ∙ (every_first _ _ (sym c.is_within-5.ensures ∙ c.if-not-is_within-5.false) ∙ (every_first _ _ (sym c.is_within-6.ensures ∙ c.if-not-is_within-6.false) ∙ (every-fails _ _ (sym c.is_within-7.ensures ∙ c.if-not-is_within-7.true))))))))

pub returns-then-not-is_within-8 : goal.returns-then-not-is_within-8
unfolding within
returns-then-not-is_within-8 c =
    sym (every_first _ _ (sym c.is_within.ensures ∙ c.if-not-is_within.false) ∙ (every_first _ _ (sym c.is_within-2.ensures ∙ c.if-not-is_within-2.false) ∙ (every_first _ _ (sym c.is_within-3.ensures ∙ c.if-not-is_within-3.false) ∙ (every_first _ _ (sym c.is_within-4.ensures ∙ c.if-not-is_within-4.false) ∙ (every_first _ _ (sym c.is_within-5.ensures ∙ c.if-not-is_within-5.false) ∙ (every_first _ _ (sym c.is_within-6.ensures ∙ c.if-not-is_within-6.false) ∙ (every_first _ _ (sym c.is_within-7.ensures ∙ c.if-not-is_within-7.false) ∙ (every-fails _ _ (sym c.is_within-8.ensures ∙ c.if-not-is_within-8.true)))))))))

pub returns : goal.returns
unfolding within
returns c =
    c.is_within-9.ensures ∙ sym (every_first _ _ (sym c.is_within.ensures ∙ c.if-not-is_within.false) ∙ (every_first _ _ (sym c.is_within-2.ensures ∙ c.if-not-is_within-2.false) ∙ (every_first _ _ (sym c.is_within-3.ensures ∙ c.if-not-is_within-3.false) ∙ (every_first _ _ (sym c.is_within-4.ensures ∙ c.if-not-is_within-4.false) ∙ (every_first _ _ (sym c.is_within-5.ensures ∙ c.if-not-is_within-5.false) ∙ (every_first _ _ (sym c.is_within-6.ensures ∙ c.if-not-is_within-6.false) ∙ (every_first _ _ (sym c.is_within-7.ensures ∙ c.if-not-is_within-7.false) ∙ (every_first _ _ (sym c.is_within-8.ensures ∙ c.if-not-is_within-8.false) ∙ (every-last _)))))))))
