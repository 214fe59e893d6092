-- A cell of 0, or above the class's number, says that there is none; another says which.
use Rattle.std.proofs.Common.{sym, ap, ◌∙◌}
use Rattle.cells.specs.Optional.{optional}
use Rattle.constraints.proofs.Supers.{super-none, super-some}
use Rattle.constraints.proofs.upward.above.Goals as goal

pub returns-then-class-up-clause-is : goal.returns-then-class-up-clause-is
returns-then-class-up-clause-is c = sym (ap optional (super-none _ _ _ (c.from-up.ensures ∙ c.at.ensures) c.if-class-up.either))

pub returns-else-class-up-clause-is : goal.returns-else-class-up-clause-is
returns-else-class-up-clause-is c = sym (ap optional (super-some _ _ _ (c.from-up.ensures ∙ c.at.ensures) c.if-class-up.false.0 c.if-class-up.false.1))
