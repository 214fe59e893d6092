-- The call is made; its answer's details are printed. Whose turn it is, is read before the call.
use Rattle.lines.specs.Carried.{answered}
use Rattle.lines.proofs.answer.Goals as goal

pub returns : goal.returns
returns c =
    answered _ _ _ _ _ _ _ _ _ _ c.perform-reply.ensures c.turn-turn.ensures c.details_of-d.ensures c.print_line.ensures
