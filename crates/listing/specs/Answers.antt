-- What the code answers, by the definition: a row of cells, or a refusal.
use Rattle.std.proofs.Math.Option.{Option, none, some}
use Rattle.std.specs.Prelude as code
use Rattle.std.specs.Prelude.{List, ℕ, get_or, Ok, Err, Some, None}
use Rattle.definition.specs.Numbers.{word_unknown, count_ties, count_subtypes, tie_numbers_cell, subtype_numbers_cell}
use Rattle.definition.specs.Lists.{rows}
use Rattle.definition.specs.declared.Refusal.{Refusal}
use Rattle.definition.specs.declared.Refusal.TheVariants.{Word}
use Rattle.definition.specs.Answers.{Result, refused, ok, take?}
use Rattle.definition.specs.Tables.{tie, subtype, tie_at, subtype_at, number_at, row_numbers}
use Rattle.listing.specs.declared.Constraint as coded
use Rattle.listing.specs.declared.Constraint.TheVariants.{Tied, Below}
use Rattle.definition.specs.Listing as Listing
use Rattle.definition.specs.Listing.{Row, tie_row, subtype_row}

abbrev pub row_of : coded.Constraint → Row
row_of (Tied l m n) = tie_row (tie l m n)
row_of (Below l a b) = subtype_row (subtype l a b)

abbrev pub listed_of : code.Result coded.Constraint Refusal → Result Row
listed_of (Err r) = refused r
listed_of (Ok x) = ok (row_of x)

-- row r, if there is one
abbrev pub row_at : (ℕ → Row) → code.Option ℕ → Option Row
row_at g (Some r) = some (g r)
row_at g None = none

-- of tables of ties and subtype constraints, with their counts and their numbers in a table of counts
unfoldable pub cells_row : List ℕ → List ℕ → List ℕ → ℕ → Result Row
cells_row c t s k =
    take? (Listing.row_of (rows (tie_at t) (get_or c count_ties 0) 0) (rows (subtype_at s) (get_or c count_subtypes 0) 0)
    (row_numbers (rows (number_at tie_numbers_cell c) (get_or c count_ties 0) 0) (rows (number_at subtype_numbers_cell c) (get_or c count_subtypes 0) 0)) k) (Word word_unknown)
