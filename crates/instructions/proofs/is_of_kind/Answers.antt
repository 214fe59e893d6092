-- Cells hold a value of the kind: an int, or a reference.
use Rattle.instructions.specs.Operands.{is_of_kind}
use Rattle.instructions.proofs.is_of_kind.Goals as goal

pub returns-in-IntKind : goal.returns-in-IntKind
unfolding is_of_kind
returns-in-IntKind c = rw c.in-IntKind.is

pub returns-in-ReferenceKind : goal.returns-in-ReferenceKind
unfolding is_of_kind
returns-in-ReferenceKind c = rw c.in-ReferenceKind.is c.is_reference.ensures
