-- The counts are compared with what is left, one after the other.
use mathlib.Core.Path.{refl, sym, ◌∙◌}
use Rattle.classfile.specs.Lists.{every-fails, every_first, every-last}
use Rattle.definition.specs.Tables.{level_at}
use Rattle.store.specs.Tracing.{is_le, leaves, not-le}
use Rattle.store.proofs.trace.level_leaves.Goals as goal

pub returns-then-from-files : goal.returns-then-from-files
unfolding leaves level_at
returns-then-from-files c = rw (← c.from.ensures) (sym (every-fails _ _ (not-le (c.from-2.ensures ∙ c.at-2.ensures) refl c.if-from-files.true)))

pub returns-then-from-supers : goal.returns-then-from-supers
unfolding leaves level_at
returns-then-from-supers c = rw (← c.from.ensures) (sym (every_first _ _ (is_le (c.from-2.ensures ∙ c.at-2.ensures) refl c.if-from-files.false) ∙ (every-fails _ _ (not-le (c.from-3.ensures ∙ c.at-3.ensures) refl c.if-from-supers.true))))

pub returns-then-classes-entries : goal.returns-then-classes-entries
unfolding leaves level_at
returns-then-classes-entries c = rw (← c.from.ensures) (sym (every_first _ _ (is_le (c.from-2.ensures ∙ c.at-2.ensures) refl c.if-from-files.false) ∙ (every_first _ _ (is_le (c.from-3.ensures ∙ c.at-3.ensures) refl c.if-from-supers.false) ∙ (every-fails _ _ (not-le (c.from-classes.ensures ∙ c.at.ensures) refl c.if-classes-entries.true)))))

pub returns-then-classes-held : goal.returns-then-classes-held
unfolding leaves level_at
returns-then-classes-held c = rw (← c.from.ensures) (sym (every_first _ _ (is_le (c.from-2.ensures ∙ c.at-2.ensures) refl c.if-from-files.false) ∙ (every_first _ _ (is_le (c.from-3.ensures ∙ c.at-3.ensures) refl c.if-from-supers.false) ∙ (every_first _ _ (is_le (c.from-classes.ensures ∙ c.at.ensures) refl c.if-classes-entries.false) ∙ (every-fails _ _ (not-le (c.from-classes.ensures ∙ c.at.ensures) refl c.if-classes-held.true))))))

pub returns-then-not-last_below : goal.returns-then-not-last_below
unfolding leaves level_at
returns-then-not-last_below c = rw (← c.from.ensures) (sym (every_first _ _ (is_le (c.from-2.ensures ∙ c.at-2.ensures) refl c.if-from-files.false) ∙ (every_first _ _ (is_le (c.from-3.ensures ∙ c.at-3.ensures) refl c.if-from-supers.false) ∙ (every_first _ _ (is_le (c.from-classes.ensures ∙ c.at.ensures) refl c.if-classes-entries.false) ∙ (every_first _ _ (is_le (c.from-classes.ensures ∙ c.at.ensures) refl c.if-classes-held.false) ∙ (every-fails _ _ (rw (← c.at-ties.ensures, ← c.at-subtypes.ensures) (rw (c.from-4.ensures, c.from-5.ensures) at (sym c.last_below.ensures ∙ c.if-not-last_below.true)))))))))

pub returns : goal.returns
unfolding leaves level_at
returns c = rw (← c.from.ensures) (sym (every_first _ _ (is_le (c.from-2.ensures ∙ c.at-2.ensures) refl c.if-from-files.false) ∙ (every_first _ _ (is_le (c.from-3.ensures ∙ c.at-3.ensures) refl c.if-from-supers.false) ∙ (every_first _ _ (is_le (c.from-classes.ensures ∙ c.at.ensures) refl c.if-classes-entries.false) ∙ (every_first _ _ (is_le (c.from-classes.ensures ∙ c.at.ensures) refl c.if-classes-held.false) ∙ (every_first _ _ (rw (← c.at-ties.ensures, ← c.at-subtypes.ensures) (rw (c.from-4.ensures, c.from-5.ensures) at (sym c.last_below.ensures ∙ c.if-not-last_below.false))) ∙ (every-last _ ∙ sym (c.last_below-2.ensures ∙ rw (c.from-4.ensures, c.from-5.ensures, c.at-ties.ensures, c.at-subtypes.ensures)))))))))
