-- A refusal as a reply has it, or a row of one of two kinds.
use mathlib.Core.Path.{ap, ◌∙◌}
use Rattle.std.specs.Prelude.{Ok}
use Rattle.host.specs.Rows.{told-denied, told-tied, told_below}
use Rattle.host.proofs.report_row.Goals as goal

pub returns-in-Ok-Tied : goal.returns-in-Ok-Tied
returns-in-Ok-Tied c = told-tied _ _ _ _ _ _ (c.in-Ok-Tied.is ∙ ap Ok (rw c.in-Ok-Tied.is at c.in-Ok-Tied.field-0-is)) c.write_row.ensures

pub returns-in-Ok-Below : goal.returns-in-Ok-Below
returns-in-Ok-Below c = told_below _ _ _ _ _ _ (c.in-Ok-Below.is ∙ ap Ok (rw c.in-Ok-Below.is at c.in-Ok-Below.field-0-is)) c.write_row-in-Ok-Below.ensures

pub returns-in-Err : goal.returns-in-Err
returns-in-Err c = told-denied _ _ _ _ _ c.in-Err.is c.report.ensures
