-- The try, and its reply and count reported.
use Rattle.host.specs.Answers.{tried-on}
use Rattle.host.proofs.tariff_try_define.Goals as goal

pub returns : goal.returns
returns c =
    tried-on _ _ _ _ _ _ _ _ _ _ c.try_define-trial.ensures c.turn-turn.ensures (c.report_trial.ensures.0 _) c.report_trial.ensures.1
