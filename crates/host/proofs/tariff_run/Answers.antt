-- The call, and its reply reported.
use Rattle.host.specs.Answers.{called, ran}
use Rattle.host.proofs.tariff_run.Goals as goal

pub returns : goal.returns
returns c =
    called _ _ _ _ _ _ _ _ (ran _ _ _ _ c.run-reply.ensures) c.turn-turn.ensures c.report.ensures
