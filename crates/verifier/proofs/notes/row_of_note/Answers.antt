-- A row that has it is one of the first.
use Rattle.verifier.proofs.NoteLaws.{any_at}
use Rattle.verifier.proofs.notes.row_of_note.Goals as goal

pub returns-then-is_row : goal.returns-then-is_row
returns-then-is_row c = (c.if-near-count.true, any_at _ _ _ _ c.if-near-count.true (c.is_row.ensures c.if-is_row.true))
