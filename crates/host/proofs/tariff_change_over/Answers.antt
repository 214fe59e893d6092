-- The changeover, and its reply reported.
use Rattle.host.specs.Answers.{changed-over}
use Rattle.host.proofs.tariff_change_over.Goals as goal

pub returns : goal.returns
returns c = changed-over _ _ _ _ _ _ _ c.change_over-reply.ensures c.report.ensures
