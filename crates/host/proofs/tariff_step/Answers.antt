-- The call, and its reply reported.
use Rattle.host.specs.Answers.{called, stepped}
use Rattle.host.proofs.tariff_step.Goals as goal

pub returns : goal.returns
returns c =
    called _ _ _ _ _ _ _ _ (stepped _ _ _ c.step-result.ensures) c.turn-turn.ensures c.report.ensures
