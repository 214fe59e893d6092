-- A free row fits. Of another the owner is a task, the class is there, and as many fields as it has are tested.
use mathlib.Core.Path.{◌∙◌, sym}
use native.Mathlib.Omega.{arith}
use Rattle.definition.specs.Tables.{owner_at}
use Rattle.store.proofs.Laws.{row-free, task-past, class-past, row-fields}
use Rattle.store.specs.Checks.{object_sized}
use Rattle.store.proofs.values.object_fits.Goals as goal

pub bounds-counts-row : goal.bounds-counts-row
bounds-counts-row c = omega (arith, c.requires.2, c.requires.4, c.from-row.ensures)

pub returns-then-owner-eq0 : goal.returns-then-owner-eq0
unfolding object_sized owner_at
returns-then-owner-eq0 c = rw (← c.from-row.ensures) (sym (row-free _ _ _ _ c.if-owner-eq0.true))

pub returns-then-owner-gt-LAST_OWNER : goal.returns-then-owner-gt-LAST_OWNER
unfolding object_sized owner_at
returns-then-owner-gt-LAST_OWNER c = rw (← c.from-row.ensures) (sym (task-past _ _ _ _ c.if-owner-gt-LAST_OWNER.true))

pub bounds-objects-row : goal.bounds-objects-row
bounds-objects-row c = omega (arith, c.requires.3, c.requires.4, c.from-row.ensures)

pub returns-then-classes-class : goal.returns-then-classes-class
unfolding object_sized owner_at
returns-then-classes-class c = rw (← c.from-row.ensures) (sym (class-past _ _ _ _ (omega (arith, c.if-owner-eq0.false)) c.if-classes-class.true))

pub bounds-sizes-class : goal.bounds-sizes-class
bounds-sizes-class c = omega (arith, c.requires.0.0, c.requires.1, c.if-classes-class.false)

pub fields_fit-requires : goal.fields_fit-requires
fields_fit-requires c = (omega (arith, c.requires.3, c.requires.4), c.requires.0.1 _)

pub returns : goal.returns
unfolding object_sized owner_at
returns c = c.fields_fit.ensures ∙ rw (← c.from-row.ensures) (sym (row-fields _ _ _ _ (omega (arith, c.if-owner-eq0.false)) c.if-owner-gt-LAST_OWNER.false c.if-classes-class.false))
