-- A local or an operand, by the part.
use Rattle.verifier.specs.Types.{local_at, operand_at}
use Rattle.verifier.specs.Answers.{meet_at}
use Rattle.verifier.proofs.flows.meet_place.Goals as goal

pub returns-in-Locals : goal.returns-in-Locals
unfolding meet_at local_at
returns-in-Locals c = rw c.in-Locals.is (rw (c.map_local.ensures, c.at-t.ensures, c.from.ensures) at c.meet_local.ensures)

pub returns-in-Operands : goal.returns-in-Operands
unfolding meet_at operand_at
returns-in-Operands c = rw c.in-Operands.is (rw (c.map_operand.ensures, c.at-t.ensures, c.from.ensures) at c.meet_name.ensures)
