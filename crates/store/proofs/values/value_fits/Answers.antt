-- By the kind: an int is any bits, an object exists, null's bits are 0, and no other kind is listed.
use mathlib.Core.Path.{◌∙◌, sym}
use Rattle.store.proofs.Laws.{int-fits, none-fits, null-fits, object-fits}
use Rattle.store.proofs.values.value_fits.Goals as goal

pub returns-then-kind-eq-KIND_INT : goal.returns-then-kind-eq-KIND_INT
returns-then-kind-eq-KIND_INT c = sym (int-fits _ _ _ c.if-kind-eq-KIND_INT.true)

pub returns-then-kind-eq-KIND_OBJECT : goal.returns-then-kind-eq-KIND_OBJECT
returns-then-kind-eq-KIND_OBJECT c = c.object_exists.ensures ∙ sym (object-fits _ _ _ c.if-kind-eq-KIND_OBJECT.true)

pub returns-then-kind-eq-KIND_NULL : goal.returns-then-kind-eq-KIND_NULL
returns-then-kind-eq-KIND_NULL c = sym (null-fits _ _ _ c.if-kind-eq-KIND_NULL.true)

pub returns : goal.returns
returns c = sym (none-fits _ _ _ c.if-kind-eq-KIND_INT.false c.if-kind-eq-KIND_OBJECT.false c.if-kind-eq-KIND_NULL.false)
