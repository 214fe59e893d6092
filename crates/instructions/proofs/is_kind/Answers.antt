-- For int, cells must hold an int; for a class name, a reference.
use Rattle.std.proofs.Common.{eq-eqb, ne_eqb}
use Rattle.instructions.specs.Operands.{is_kind}
use Rattle.definition.specs.Instructions.{pick}
use Rattle.instructions.proofs.is_kind.Goals as goal

pub returns-then-name-eq-NAME_INT : goal.returns-then-name-eq-NAME_INT
unfolding is_kind pick
returns-then-name-eq-NAME_INT c = rw (eq-eqb _ _ c.if-name-eq-NAME_INT.true)

pub returns-else-name-eq-NAME_INT : goal.returns-else-name-eq-NAME_INT
unfolding is_kind pick
returns-else-name-eq-NAME_INT c = rw (ne_eqb _ _ c.if-name-eq-NAME_INT.false) c.is_reference.ensures
