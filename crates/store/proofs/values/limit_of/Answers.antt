-- By the kind.
use borrow.Author.Tests.{eq-eqb, ne_eqb}
use Rattle.definition.specs.Instructions.{pick}
use Rattle.store.specs.Checks.{limit_of}
use Rattle.store.proofs.values.limit_of.Goals as goal

pub returns-then-kind-eq-KIND_OBJECT : goal.returns-then-kind-eq-KIND_OBJECT
unfolding limit_of pick
returns-then-kind-eq-KIND_OBJECT c = rw (eq-eqb _ _ c.if-kind-eq-KIND_OBJECT.true)

pub returns-then-kind-eq-KIND_NULL : goal.returns-then-kind-eq-KIND_NULL
unfolding limit_of pick
returns-then-kind-eq-KIND_NULL c = rw (ne_eqb _ _ c.if-kind-eq-KIND_OBJECT.false, eq-eqb _ _ c.if-kind-eq-KIND_NULL.true)

pub returns-else-kind-eq-KIND_NULL : goal.returns-else-kind-eq-KIND_NULL
unfolding limit_of pick
returns-else-kind-eq-KIND_NULL c = rw (ne_eqb _ _ c.if-kind-eq-KIND_OBJECT.false, ne_eqb _ _ c.if-kind-eq-KIND_NULL.false)
