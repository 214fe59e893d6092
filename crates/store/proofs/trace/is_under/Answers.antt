-- The five counts are compared, one after the other.
use mathlib.Core.Path.{sym, ◌∙◌}
use native.Mathlib.Omega.{arith}
use Rattle.classfile.specs.Lists.{every-fails, every_first, every-last}
use Rattle.store.specs.Tracing.{is_le, level_from, not-le, under}
use Rattle.store.proofs.trace.is_under.Goals as goal

pub returns-then-at : goal.returns-then-at
unfolding under level_from
returns-then-at c = sym (every-fails _ _ (not-le c.at.ensures c.at-2.ensures c.if-at.true))

pub overflow_add-above : goal.overflow_add-above
overflow_add-above c = omega (arith, c.requires.0, c.requires.1)

pub overflow_add-place : goal.overflow_add-place
overflow_add-place c = omega (arith, c.requires.0, c.requires.1)

pub returns-then-at-2 : goal.returns-then-at-2
unfolding under level_from
returns-then-at-2 c = sym (every_first _ _ (is_le c.at.ensures c.at-2.ensures c.if-at.false) ∙ (every-fails _ _ (not-le c.at-3.ensures c.at-4.ensures c.if-at-2.true)))

pub overflow_add-above-2 : goal.overflow_add-above-2
overflow_add-above-2 c = omega (arith, c.requires.0, c.requires.1)

pub overflow_add-place-2 : goal.overflow_add-place-2
overflow_add-place-2 c = omega (arith, c.requires.0, c.requires.1)

pub returns-then-at-3 : goal.returns-then-at-3
unfolding under level_from
returns-then-at-3 c = sym (every_first _ _ (is_le c.at.ensures c.at-2.ensures c.if-at.false) ∙ (every_first _ _ (is_le c.at-3.ensures c.at-4.ensures c.if-at-2.false) ∙ (every-fails _ _ (not-le c.at-5.ensures c.at-6.ensures c.if-at-3.true))))

pub overflow_add-above-3 : goal.overflow_add-above-3
overflow_add-above-3 c = omega (arith, c.requires.0, c.requires.1)

pub overflow_add-place-3 : goal.overflow_add-place-3
overflow_add-place-3 c = omega (arith, c.requires.0, c.requires.1)

pub returns-then-at-4 : goal.returns-then-at-4
unfolding under level_from
returns-then-at-4 c = sym (every_first _ _ (is_le c.at.ensures c.at-2.ensures c.if-at.false) ∙ (every_first _ _ (is_le c.at-3.ensures c.at-4.ensures c.if-at-2.false) ∙ (every_first _ _ (is_le c.at-5.ensures c.at-6.ensures c.if-at-3.false) ∙ (every-fails _ _ (not-le c.at-7.ensures c.at-8.ensures c.if-at-4.true)))))

pub overflow_add-place-4 : goal.overflow_add-place-4
overflow_add-place-4 c = omega (arith, c.requires.0, c.requires.1)

pub overflow_add-above-4 : goal.overflow_add-above-4
overflow_add-above-4 c = omega (arith, c.requires.0, c.requires.1)

pub returns : goal.returns
unfolding under level_from
returns c = rw (c.at-9.ensures, c.at-10.ensures) (sym (every_first _ _ (is_le c.at.ensures c.at-2.ensures c.if-at.false) ∙ (every_first _ _ (is_le c.at-3.ensures c.at-4.ensures c.if-at-2.false) ∙ (every_first _ _ (is_le c.at-5.ensures c.at-6.ensures c.if-at-3.false) ∙ (every_first _ _ (is_le c.at-7.ensures c.at-8.ensures c.if-at-4.false) ∙ (every-last _))))))
