-- The row of number k is the k-th posted: where rows are posted, each that was there keeps its number, and the new ones have the next numbers in the order in
-- which they are posted, the notes before the ties.
use mathlib.Core.Path.{◌≡◌, refl, sym, ap, ◌∙◌}
use mathlib.Core.Bool.{Bool, true, false}
use mathlib.Core.Option.{Option, none, some}
use mathlib.Core.List.{List, [], ◌∷◌, ◌++◌, map}
use Prim.Native.Nat.{ℕ, zero, suc, ◌+◌, ◌≤◌, ◌<◌}
use native.Mathlib.Omega.{arith}
use lib.ListN.{length, get_elem?}
use lib.Dec.{eqb}
use borrow.Author.Tests.{eq-eqb, ne_eqb}
use Rattle.definition.specs.Lists.{rows}
use Rattle.definition.specs.Tables.{Rows}
use Rattle.definition.specs.Calls.{numbers_from}
use Rattle.layout.specs.Tests.{All, all_more}
use Rattle.layout.specs.Whole.{Numbering}
use Rattle.layout.specs.InTurn.{numbers-below}
use Rattle.layout.specs.Places.{rows_all}
use Rattle.unbroken.specs.Numbers.{Posts, next_number}
use Rattle.definition.specs.Listing.{Row, tie_row, subtype_row, row_numbered, row_of}
use Rattle.listing.proofs.RowLaws.{length-map}

or_else : Option Row → Option Row → Option Row
or_else a b = elim a as (λ _. Option Row) [ some x ↦ some x | none ↦ b ]

else-none : (a : Option Row) → or_else a none ≡ a
unfolding or_else
else-none none = refl
else-none (some x) = refl

-- rows behind others
both-parts : (xs ys : List Row) (ns ms : List ℕ) (k : ℕ) → length xs ≡ length ns → row_numbered (xs ++ ys) (ns ++ ms) k ≡ or_else (row_numbered xs ns k) (row_numbered ys ms k)
unfolding row_numbered or_else
both-parts [] ys [] ms k e = refl
both-parts [] ys (n ∷ ns) ms k e = absurd (omega (arith, e))
both-parts (x ∷ xs) ys [] ms k e = absurd (omega (arith, e))
both-parts (x ∷ xs) ys (n ∷ ns) ms k e = go (eqb n k) (both-parts xs ys ns ms k (omega (arith, e)))
  where
    go : (b : Bool) → row_numbered (xs ++ ys) (ns ++ ms) k ≡ or_else (row_numbered xs ns k) (row_numbered ys ms k)
        → ◌≡◌ {A = Option Row} (elim b as (λ _. Option Row) [ true ↦ some x | false ↦ row_numbered (xs ++ ys) (ns ++ ms) k ])
        (or_else (elim b as (λ _. Option Row) [ true ↦ some x | false ↦ row_numbered xs ns k ]) (row_numbered ys ms k))
    go true ih = refl
    go false ih = ih

-- no row has that number
absent : (ys : List Row) (ms : List ℕ) (k : ℕ) → All (λ m. m ≡ k → ⊥) ms → row_numbered ys ms k ≡ none
unfolding row_numbered
absent [] ms k a = refl
absent (y ∷ ys) [] k a = refl
absent (y ∷ ys) (m ∷ ms) k a = rw (row_numbered, ne_eqb m k a.0) (absent ys ms k a.1)

-- rows with the numbers from j on
in-order : (ys : List Row) (j i : ℕ) → row_numbered ys (numbers_from j (length ys)) (j + i) ≡ get_elem? ys i
unfolding row_numbered rows
in-order [] j i = refl
in-order (y ∷ ys) j zero = rw (row_numbered, eq-eqb j (j + 0) (omega arith)) refl
in-order (y ∷ ys) j (suc i) =
    let z : j + suc i ≡ suc j + i = omega arith in
    rw (row_numbered, ne_eqb j (j + suc i) (λ e. omega (arith, e)), z) (in-order ys (suc j) i)

behind : (j n k : ℕ) → k < j → All (λ m. m ≡ k → ⊥) (numbers_from j n)
behind j n k l = rows_all (λ m. m ≡ k → ⊥) (λ i. i) n j (λ m a b e. omega (arith, e))

past : (j n k : ℕ) → j + n ≤ k → All (λ m. m ≡ k → ⊥) (numbers_from j n)
past j n k l = rows_all (λ m. m ≡ k → ⊥) (λ i. i) n j (λ m a b e. omega (arith, e))

map_both : {A B : Type 0} (f : A → B) (xs ys : List A) → map f (xs ++ ys) ≡ map f xs ++ map f ys
map_both f [] ys = refl
map_both f (x ∷ xs) ys = ap (λ zs. f x ∷ zs) (map_both f xs ys)

-- posted rows by their numbers
fresh : {A : Type 0} (f : A → Row) (ys : List A) (j i k : ℕ) → k ≡ j + i → row_numbered (map f ys) (numbers_from j (length ys)) k ≡ get_elem? (map f ys) i
fresh f ys j i k e = rw (e, ← (length-map f ys)) (in-order (map f ys) j i)

-- of one table, with rows posted behind those that were there
part : {A : Type 0} (f : A → Row) (xs ys : List A) (ns ms : List ℕ) (k : ℕ) → length xs ≡ length ns
    → row_numbered (map f (xs ++ ys)) (ns ++ ms) k ≡ or_else (row_numbered (map f xs) ns k) (row_numbered (map f ys) ms k)
part f xs ys ns ms k e = rw (map_both f xs ys) (both-parts (map f xs) (map f ys) ns ms k (length-map f xs ∙ e))

module _ (r s : Rows) (h : Numbering r) (p : Posts r s) (k : ℕ) where
  abbrev row_then : Option Row
  row_then = row_of s.ties s.subtypes s.numbers k

  posted : row_then
      ≡ or_else (or_else (row_numbered (map tie_row r.ties) r.numbers.ties k) (row_numbered (map tie_row p.new_ties) (numbers_from (next_number r + length p.new_subtypes) (length p.new_ties)) k))
      (or_else (row_numbered (map subtype_row r.subtypes) r.numbers.subtypes k) (row_numbered (map subtype_row p.new_subtypes) (numbers_from (next_number r) (length p.new_subtypes)) k))
  unfolding row_of or_else
  posted =
      rw (p.ties, p.subtypes, p.numbers)
      (λ i. or_else
      (part tie_row r.ties p.new_ties r.numbers.ties (numbers_from (next_number r + length p.new_subtypes) (length p.new_ties)) k (sym h.ties) i)
      (part subtype_row r.subtypes p.new_subtypes r.numbers.subtypes (numbers_from (next_number r) (length p.new_subtypes)) k (sym h.subtypes) i))

  -- a row keeps its number
  pub row_kept : k < next_number r → row_then ≡ row_of r.ties r.subtypes r.numbers k
  unfolding row_of or_else
  row_kept l =
      let a = absent (map tie_row p.new_ties) (numbers_from (next_number r + length p.new_subtypes) (length p.new_ties)) k (behind (next_number r + length p.new_subtypes) (length p.new_ties) k (omega arith)) in
      let b = absent (map subtype_row p.new_subtypes) (numbers_from (next_number r) (length p.new_subtypes)) k (behind (next_number r) (length p.new_subtypes) k l) in
      posted ∙ rw (a, b, else-none (row_numbered (map tie_row r.ties) r.numbers.ties k), else-none (row_numbered (map subtype_row r.subtypes) r.numbers.subtypes k)) refl

  -- the numbers that were there are lower
  before-ties : next_number r ≤ k → row_numbered (map tie_row r.ties) r.numbers.ties k ≡ none
  before-ties l =
      absent (map tie_row r.ties) r.numbers.ties k
      (all_more {P = λ m. m < next_number r} {Q = λ m. m ≡ k → ⊥} (λ m a e. omega (arith, a, e)) r.numbers.ties (numbers-below (length r.ties) (length r.subtypes) r.numbers h).0)

  before-subtypes : next_number r ≤ k → row_numbered (map subtype_row r.subtypes) r.numbers.subtypes k ≡ none
  before-subtypes l =
      absent (map subtype_row r.subtypes) r.numbers.subtypes k
      (all_more {P = λ m. m < next_number r} {Q = λ m. m ≡ k → ⊥} (λ m a e. omega (arith, a, e)) r.numbers.subtypes (numbers-below (length r.ties) (length r.subtypes) r.numbers h).1)

  -- the notes have the next numbers
  pub row-note : (i : ℕ) → k ≡ next_number r + i → i < length p.new_subtypes → row_then ≡ get_elem? (map subtype_row p.new_subtypes) i
  unfolding or_else
  row-note i e l =
      let a = before-ties (omega (arith, e)) in
      let b = absent (map tie_row p.new_ties) (numbers_from (next_number r + length p.new_subtypes) (length p.new_ties)) k (behind (next_number r + length p.new_subtypes) (length p.new_ties) k (omega (arith, e))) in
      let c = before-subtypes (omega (arith, e)) in
      posted ∙ rw (a, b, c) (fresh subtype_row p.new_subtypes (next_number r) i k e)

  -- and the ties those behind them
  pub row-tie : (i : ℕ) → k ≡ next_number r + length p.new_subtypes + i → row_then ≡ get_elem? (map tie_row p.new_ties) i
  unfolding or_else
  row-tie i e =
      let a = before-ties (omega (arith, e)) in
      let c = before-subtypes (omega (arith, e)) in
      let d = absent (map subtype_row p.new_subtypes) (numbers_from (next_number r) (length p.new_subtypes)) k (past (next_number r) (length p.new_subtypes) k (omega (arith, e))) in
      posted
      ∙ rw (a, c, d)
      (else-none (row_numbered (map tie_row p.new_ties) (numbers_from (next_number r + length p.new_subtypes) (length p.new_ties)) k)
      ∙ fresh tie_row p.new_ties (next_number r + length p.new_subtypes) i k e)
