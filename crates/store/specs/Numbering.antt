-- Rows numbered on: all of them, or none where there are not so many numbers.
use Rattle.std.specs.Prelude.{◌≡◌, true, false, List, ℕ, ◌+◌, ◌<◌, ◌≤◌, leb}
use Rattle.std.proofs.Common.{le-leb}
use Rattle.std.proofs.lemmas.Bool.{lt-leb}
use Rattle.definition.specs.Numbers.{tie_limit, subtype_limit}
use Rattle.definition.specs.Lists.{write_rows}
use Rattle.definition.specs.Tables.{put_number}
use Rattle.definition.specs.Calls.{numbers_from}

-- the n rows from `row` on get the numbers from k on, in the table whose numbers begin at cell s; both tables together have 512 rows
unfoldable pub numbered_rows : ℕ → ℕ → ℕ → ℕ → List ℕ → List ℕ
numbered_rows s row k n t = elim (leb (k + n) (tie_limit + subtype_limit)) [ true ↦ write_rows (put_number s) (numbers_from k n) row t | false ↦ t ]

module _ (s row k n : ℕ) (t : List ℕ) where
  pub numbered-few : k + n ≤ 512 → numbered_rows s row k n t ≡ write_rows (put_number s) (numbers_from k n) row t
  unfolding numbered_rows
  numbered-few h = rw (le-leb (k + n) 512 h, numbered_rows)

  pub numbered-many : 512 < k + n → numbered_rows s row k n t ≡ t
  unfolding numbered_rows
  numbered-many h = rw (lt-leb (k + n) 512 h, numbered_rows)
