-- The numbers of ties and subtype constraints, which are in turn: each next one stands next in one of the two tables.
use Rattle.std.specs.Prelude.{Bool, List, [], ◌∷◌, ℕ, get_or, Option, Some, None}
use Rattle.definition.specs.Numbers.{count_ties, count_subtypes, tie_numbers_cell, subtype_numbers_cell}
use Rattle.definition.specs.Lists.{rows}
use Rattle.definition.specs.Tables.{number_at, row_numbers}
use Rattle.definition.specs.Broken.{numbered}

-- The numbers of the used rows are in turn
unfoldable pub numbers_fit : List ℕ → Bool
numbers_fit counts =
    numbered (row_numbers (rows (number_at tie_numbers_cell counts) (get_or counts count_ties 0) 0) (rows (number_at subtype_numbers_cell counts) (get_or counts count_subtypes 0) 0))

-- the number of the first of rows, if there is one
unfoldable pub standing : List ℕ → Option ℕ
standing [] = None
standing (x ∷ xs) = Some x
