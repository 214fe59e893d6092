-- The search for a number, row by row, and the row that it finds.
use mathlib.Core.Path.{◌≡◌, refl}
use mathlib.Core.Bool.{true, false}
use mathlib.Core.Logic.{◌≢◌}
use mathlib.Core.Option.{Option, none, some}
use mathlib.Core.List.{List, map}
use Prim.Native.Nat.{ℕ, ◌+◌, ◌-◌, ◌<◌, ◌≤◌}
use lib.ListN.{get_or}
use borrow.Author.Tests.{eq-eqb, ne_eqb}
use Rattle.definition.specs.Numbers.{word_unknown, count_ties, count_subtypes, tie_numbers_cell, subtype_numbers_cell}
use Rattle.std.specs.Prelude as code
use Rattle.std.specs.Prelude.{Some, None}
use Rattle.definition.specs.Lists.{rows}
use Rattle.definition.specs.declared.Refusal.TheVariants.{Word}
use Rattle.definition.specs.Answers.{refused, ok, take?}
use Rattle.definition.specs.Tables.{Tables, tie_at, subtype_at, number_at, view_over, view}
use Rattle.definition.specs.Broken.{broken}
use Rattle.layout.specs.Places.{rows_step, rows_none, rows_start, rows-map}
use Rattle.definition.specs.Listing.{Row, tie_row, subtype_row, row_numbered, row_of, row_in, stored_row}
use Rattle.listing.specs.Answers.{row_at, cells_row}

module _ (c : List ℕ) (s n k : ℕ) (g : ℕ → Row) where
  -- from row i on
  abbrev pub from : ℕ → Option Row
  from i = row_numbered (rows g (n - i) i) (rows (number_at s c) (n - i) i) k

  pub search-starts : from 0 ≡ row_numbered (rows g n 0) (rows (number_at s c) n 0) k
  search-starts = rw (rows_start g n, rows_start (number_at s c) n) refl

  pub search-out : (i : ℕ) → n ≤ i → from i ≡ none
  unfolding row_numbered
  search-out i h = rw (rows_none g n i h) refl

  module _ (i : ℕ) (h : i < n) where
    pub search-hit : get_or c (s + i) 0 ≡ k → from i ≡ some (g i)
    unfolding row_numbered number_at
    search-hit e = rw (rows_step g n i h, rows_step (number_at s c) n i h, row_numbered, eq-eqb (get_or c (s + i) 0) k e) refl

    pub search-on : get_or c (s + i) 0 ≢ k → from i ≡ from (i + 1)
    unfolding row_numbered number_at
    search-on e = rw (rows_step g n i h, rows_step (number_at s c) n i h, row_numbered, ne_eqb (get_or c (s + i) 0) k e) refl

-- where n is the count that was read
pub found-by : (c : List ℕ) (s n v k : ℕ) (i : code.Option ℕ) → n ≡ v → ((g : ℕ → Row) → row_numbered (rows g n 0) (rows (number_at s c) n 0) k ≡ row_at g i)
    → (g : ℕ → Row) → row_numbered (rows g v 0) (rows (number_at s c) v 0) k ≡ row_at g i
found-by c s n v k i e h g = rw (← e) (h g)

-- The row of tables, by where its number stands among the ties, or among the subtype constraints

module _ (c t s : List ℕ) (k : ℕ) (i j : code.Option ℕ)
    (e : (g : ℕ → Row) → row_numbered (rows g (get_or c count_ties 0) 0) (rows (number_at tie_numbers_cell c) (get_or c count_ties 0) 0) k ≡ row_at g i) where
  tie-found : row_numbered (map tie_row (rows (tie_at t) (get_or c count_ties 0) 0)) (rows (number_at tie_numbers_cell c) (get_or c count_ties 0) 0) k ≡ row_at (λ x. tie_row (tie_at t x)) i
  tie-found = rw (rows-map tie_row (tie_at t) (get_or c count_ties 0) 0) (e (λ x. tie_row (tie_at t x)))

  pub row-tied : (n : ℕ) → i ≡ Some n → cells_row c t s k ≡ ok (tie_row (tie_at t n))
  unfolding cells_row row_of take?
  row-tied n h = rw (cells_row, row_of, tie-found, h) refl

  module _ (l : i ≡ None)
      (f : (g : ℕ → Row) → row_numbered (rows g (get_or c count_subtypes 0) 0) (rows (number_at subtype_numbers_cell c) (get_or c count_subtypes 0) 0) k ≡ row_at g j) where
    subtype-found : row_numbered (map subtype_row (rows (subtype_at s) (get_or c count_subtypes 0) 0)) (rows (number_at subtype_numbers_cell c) (get_or c count_subtypes 0) 0) k
        ≡ row_at (λ x. subtype_row (subtype_at s x)) j
    subtype-found = rw (rows-map subtype_row (subtype_at s) (get_or c count_subtypes 0) 0) (f (λ x. subtype_row (subtype_at s x)))

    pub row_below : (n : ℕ) → j ≡ Some n → cells_row c t s k ≡ ok (subtype_row (subtype_at s n))
    unfolding cells_row row_of take?
    row_below n h = rw (cells_row, row_of, tie-found, l, subtype-found, h) refl

    pub row-none : j ≡ None → cells_row c t s k ≡ refused (Word word_unknown)
    unfolding cells_row row_of take?
    row-none h = rw (cells_row, row_of, tie-found, l, subtype-found, h) refl

-- On tables

module _ (t : Tables) (k : ℕ) where
  pub row-broken : broken t ≡ true → stored_row k t ≡ refused (Word 1)
  unfolding stored_row
  row-broken e = rw (stored_row, e) refl

  pub row-sound : broken t ≡ false → stored_row k t ≡ cells_row t.counts t.ties t.subtypes k
  unfolding stored_row row_in cells_row view view_over
  row-sound e = rw (stored_row, e) refl
