-- Cells hold a reference just if they hold null or an object.
use borrow.Author.Tests.{eq-eqb, ne_eqb}
use Rattle.definition.specs.Instructions.{pick}
use Rattle.instructions.specs.Operands.{is_reference}
use Rattle.instructions.proofs.is_reference.Goals as goal

pub returns-then-v-eq-KIND_OBJECT : goal.returns-then-v-eq-KIND_OBJECT
unfolding is_reference pick
returns-then-v-eq-KIND_OBJECT c = rw (eq-eqb _ _ c.if-v-eq-KIND_OBJECT.true)

pub returns-then-v-eq-KIND_NULL : goal.returns-then-v-eq-KIND_NULL
unfolding is_reference pick
returns-then-v-eq-KIND_NULL c = rw (ne_eqb _ _ c.if-v-eq-KIND_OBJECT.false, eq-eqb _ _ c.if-v-eq-KIND_NULL.true)

pub returns-else-v-eq-KIND_NULL : goal.returns-else-v-eq-KIND_NULL
unfolding is_reference pick
returns-else-v-eq-KIND_NULL c = rw (ne_eqb _ _ c.if-v-eq-KIND_OBJECT.false, ne_eqb _ _ c.if-v-eq-KIND_NULL.false)
