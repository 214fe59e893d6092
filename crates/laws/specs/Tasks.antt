-- What holds of the quote's and of the report's holds of a task's.
use Rattle.std.specs.Prelude.{ℕ, zero, suc}
use Rattle.definition.specs.Tables.{of_task}

pub of-task : {A : Type 0} (P : A → Type 0) (k : ℕ) {q p : A} → P q → P p → P (of_task k q p)
of-task P zero x y = x
of-task P (suc k) x y = y
