-- The row is read, and its call performed and answered.
use native.Mathlib.Omega.{arith}
use Rattle.driver.specs.Laws.{row-unread, row-performed}
use Rattle.driver.proofs.perform_row.Goals as goal

pub returns-in_default : goal.returns-in_default
returns-in_default c =
    row-unread _ _ _ c.read_row.ensures _ _ _ c.in_default.is

pub write_answer-requires : goal.write_answer-requires
write_answer-requires c =
    omega (arith, c.requires, c.well_formed.1.1.1.1.1.1.1.1.0.0)

pub returns : goal.returns
returns c =
    row-performed _ _ _ c.read_row.ensures _ _ _ _ c.in-Some.is _ _ _ (rw c.file_of-file.ensures at c.perform-reply.ensures) c.write_answer.ensures
