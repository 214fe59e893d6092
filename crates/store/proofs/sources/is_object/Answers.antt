-- The three cells of row 0 are 0.
use mathlib.Core.Path.{◌∙◌, sym}
use borrow.Author.Tests.{eq-eqb, ne_eqb}
use Rattle.definition.specs.Broken.{is_object}
use Rattle.definition.specs.Tables.{class_row_at}
use Rattle.classfile.specs.Lists.{every-fails, every_first, every-last}
use Rattle.store.proofs.sources.is_object.Goals as goal

pub returns-then-at-ne0 : goal.returns-then-at-ne0
unfolding is_object class_row_at
returns-then-at-ne0 c = rw (← c.at.ensures) (sym (every-fails _ _ (ne_eqb _ _ c.if-at-ne0.true)))

pub returns-then-at-ne0-2 : goal.returns-then-at-ne0-2
unfolding is_object class_row_at
returns-then-at-ne0-2 c = rw (← c.at.ensures, ← c.at-2.ensures) (sym (every_first _ _ (eq-eqb _ _ c.if-at-ne0.false) ∙ (every-fails _ _ (ne_eqb _ _ c.if-at-ne0-2.true))))

pub returns : goal.returns
unfolding is_object class_row_at
returns c = rw (← c.at.ensures, ← c.at-2.ensures, ← c.at-3.ensures) (sym (every_first _ _ (eq-eqb _ _ c.if-at-ne0.false) ∙ (every_first _ _ (eq-eqb _ _ c.if-at-ne0-2.false) ∙ (every-last _))))
