-- By its cases.
use mathlib.Core.Path.{refl, ap, ◌∙◌}
use Rattle.std.specs.Prelude.{Ok}
use Rattle.host.specs.Findings.{told-found, told_none, told-refused}
use Rattle.host.proofs.report_finding.Goals as goal

pub returns-in-Ok-Some : goal.returns-in-Ok-Some
returns-in-Ok-Some c =
    rw (c.in-Ok-Some.is ∙ ap Ok (rw c.in-Ok-Some.is at c.in-Ok-Some.field-0-is)) (told-found _ _ _ _ _ _ c.report_kind.ensures c.report_order.ensures refl)

pub returns-in-Ok-None : goal.returns-in-Ok-None
returns-in-Ok-None c = rw (c.in-Ok-None.is ∙ ap Ok (rw c.in-Ok-None.is at c.in-Ok-None.field-0-is)) (told_none _ _ _ c.report_kind-in-Ok-None.ensures refl)

pub returns-in-Err : goal.returns-in-Err
returns-in-Err c = rw c.in-Err.is (told-refused _ _ _ _ c.report.ensures)
