-- The numbers that posted rows get.
use Rattle.std.specs.Prelude.{List, ◌++◌, ℕ, ◌+◌, ◌-◌, ◌≤◌, get_or}
use Rattle.definition.specs.Numbers.{tie_numbers_cell, subtype_numbers_cell}
use Rattle.definition.specs.Lists.{rows, write_rows}
use Rattle.definition.specs.Tables.{RowNumbers, row_numbers, number_at, put_number}
use Rattle.definition.specs.Calls.{numbers_from}

-- rows posted behind those of n are numbered on, where there are now i ties and j subtype constraints: subtype constraints first, then ties
unfoldable pub numbers_on : List ℕ → ℕ → ℕ → List ℕ → List ℕ
numbers_on n i j c =
    write_rows (put_number tie_numbers_cell) (numbers_from (get_or n 3 0 + j) (i - get_or n 3 0)) (get_or n 3 0)
    (write_rows (put_number subtype_numbers_cell) (numbers_from (get_or n 3 0 + get_or n 4 0) (j - get_or n 4 0)) (get_or n 4 0) c)

-- and what is read then: the numbers that were there, with those behind them
unfoldable pub numbers_after : List ℕ → ℕ → ℕ → RowNumbers
numbers_after n i j = row_numbers
    (rows (number_at tie_numbers_cell n) (get_or n 3 0) 0 ++ numbers_from (get_or n 3 0 + j) (i - get_or n 3 0))
    (rows (number_at subtype_numbers_cell n) (get_or n 4 0) 0 ++ numbers_from (get_or n 3 0 + get_or n 4 0) (j - get_or n 4 0))

-- there are no fewer than there were, and all have room
pub record Grown (n : List ℕ) (i j : ℕ) : Type 0 where
  pub ties : get_or n 3 0 ≤ i
  pub ties_few : i ≤ 256
  pub subtypes : get_or n 4 0 ≤ j
  pub subtypes_few : j ≤ 256
