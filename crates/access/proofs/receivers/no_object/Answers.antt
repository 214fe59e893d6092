-- A receiver that is no object is refused as null if it is null, and else as of the wrong kind.
use borrow.Author.Tests.{eq-eqb, ne_eqb}
use Rattle.access.specs.Members.{no_object}
use Rattle.definition.specs.Instructions.{pick}
use Rattle.access.proofs.receivers.no_object.Goals as goal

pub returns-then-v-eq0 : goal.returns-then-v-eq0
unfolding no_object pick
returns-then-v-eq0 c = rw (eq-eqb _ _ c.if-v-eq-KIND_NULL.true, eq-eqb _ _ c.if-v-eq0.true)

pub returns-else-v-eq-KIND_NULL : goal.returns-else-v-eq-KIND_NULL
unfolding no_object pick
returns-else-v-eq-KIND_NULL c =
    elim c.else-v-eq-KIND_NULL.branch [
      | goal.else-v-eq-KIND_NULL-via-then-v-eq-KIND_NULL+else-v-eq0 w ↦ rw (eq-eqb _ _ w.if-v-eq-KIND_NULL.true, ne_eqb _ _ w.if-v-eq0.false)
      | goal.else-v-eq-KIND_NULL-via-else-v-eq-KIND_NULL w ↦ rw (ne_eqb _ _ w.if-v-eq-KIND_NULL.false)
    ]
