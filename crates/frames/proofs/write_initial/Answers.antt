-- A field begins as 0 if its type is int, and as null if its type is a class name.
use borrow.Author.Tests.{eq-eqb, ne_eqb}
use Rattle.frames.specs.Initial.{initial_of}
use Rattle.definition.specs.Instructions.{pick}
use Rattle.definition.specs.Tables.{value_of}
use Rattle.frames.proofs.write_initial.Goals as goal

pub returns : goal.returns
unfolding initial_of pick value_of
returns c =
    elim c.if-name-eq-NAME_INT.branch [
      | goal.then-name-eq-NAME_INT w ↦ rw (c.write_field.ensures, w.kind-is, eq-eqb _ _ w.if-name-eq-NAME_INT.true)
      | goal.else-name-eq-NAME_INT w ↦ rw (c.write_field.ensures, w.kind-is, ne_eqb _ _ w.if-name-eq-NAME_INT.false)
    ]
