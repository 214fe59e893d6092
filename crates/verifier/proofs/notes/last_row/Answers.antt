-- A row that has it is one of the first.
use native.Mathlib.Omega.{arith}
use Rattle.verifier.proofs.NoteLaws.{any_at}
use Rattle.verifier.proofs.notes.last_row.Goals as goal

pub returns-then-is_row : goal.returns-then-is_row
returns-then-is_row c = (omega arith, any_at _ _ _ _ (omega arith) (c.is_row.ensures c.if-is_row.true))
