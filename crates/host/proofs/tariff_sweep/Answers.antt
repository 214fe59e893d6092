-- The call, and its reply reported.
use Rattle.host.specs.Answers.{called}
use Rattle.host.proofs.tariff_sweep.Goals as goal

pub returns : goal.returns
returns c =
    called _ _ _ _ _ _ _ _ c.sweep-reply.ensures c.turn-turn.ensures c.report.ensures
