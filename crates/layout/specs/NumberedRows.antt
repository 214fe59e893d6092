-- The numbers of the rows of ties and of subtype constraints, behind the owners: what is read and put back changes nothing, numbers behind them are written
-- alone, no other cell is written, and numbers that were put are read back.
use Rattle.std.specs.Prelude.{◌≡◌, ℕ, suc, ◌+◌, ◌-◌, ◌<◌, ◌≤◌, length, get_or}
use Rattle.std.proofs.Math.Path.{refl}
use Rattle.std.proofs.Common.{◌∙◌, arith, length-append}
use mathlib.Core.List.{List, [], ◌∷◌, ◌++◌, append-nil}
use Rattle.std.proofs.Math.ListN.{length-set}
use Rattle.std.proofs.Math.Seq.{set-get_or, get_or-set_same, get_or-set_other}
use Rattle.definition.specs.Numbers.{tie_numbers_cell, subtype_numbers_cell}
use Rattle.definition.specs.Lists.{rows, write_rows}
use Rattle.definition.specs.Constraints.{Tie, Subtype}
use Rattle.definition.specs.Tables.{RowNumbers, row_numbers, Rows, number_at, put_number, put_numbers}
use Rattle.definition.specs.Calls.{numbers_from, numbered_on}
use Rattle.layout.specs.Places.{rows-cong, write_rows-append, write_rows-length, rows_written}
use Rattle.layout.specs.Rows.{Anything, all-anything}

-- One section, from cell s on

module _ (s : ℕ) where
  number_same : (t : List ℕ) (i : ℕ) → put_number s t i (number_at s t i) ≡ t
  unfolding put_number number_at
  number_same t i = set-get_or t (s + i) 0

  number-below : (t : List ℕ) (i j x : ℕ) → i < j → number_at s (put_number s t j x) i ≡ number_at s t i
  unfolding put_number number_at
  number-below t i j x l = get_or-set_other t (s + j) (s + i) x 0 (λ e. omega arith)

  pub put_number-length : (t : List ℕ) (i x : ℕ) → length (put_number s t i x) ≡ length t
  unfolding put_number
  put_number-length t i x = length-set t (s + i) x

  -- cells before the section stay, and cells behind what is written
  pub numbers-before : (xs : List ℕ) (i : ℕ) (t : List ℕ) (j : ℕ) → j < s → get_or (write_rows (put_number s) xs i t) j 0 ≡ get_or t j 0
  unfolding write_rows put_number
  numbers-before [] i t j l = refl
  numbers-before (x ∷ xs) i t j l =
      get_or-set_other (write_rows (put_number s) xs (suc i) t) (s + i) j x 0 (λ e. omega arith) ∙ numbers-before xs (suc i) t j l

  pub numbers-behind : (xs : List ℕ) (i : ℕ) (t : List ℕ) (j : ℕ) → s + (i + length xs) ≤ j → get_or (write_rows (put_number s) xs i t) j 0 ≡ get_or t j 0
  unfolding write_rows put_number
  numbers-behind [] i t j l = refl
  numbers-behind (x ∷ xs) i t j l =
      get_or-set_other (write_rows (put_number s) xs (suc i) t) (s + i) j x 0 (λ e. omega arith) ∙ numbers-behind xs (suc i) t j (omega arith)

  -- numbers as they were read off c, with others behind them, written where the first n are those of c
  pub numbers_more : (c t : List ℕ) (n : ℕ) (xs : List ℕ) → ((i : ℕ) → i < n → number_at s t i ≡ number_at s c i)
      → write_rows (put_number s) (rows (number_at s c) n 0 ++ xs) 0 t ≡ write_rows (put_number s) xs n t
  numbers_more c t n xs same =
      rw (← rows-cong (number_at s t) (number_at s c) n 0 (λ m a l. same m (omega arith))) (write_rows-append (put_number s) (number_at s) number_same number-below t n xs)

  pub numbers-kept : (c t : List ℕ) (n : ℕ) → ((i : ℕ) → i < n → number_at s t i ≡ number_at s c i) → write_rows (put_number s) (rows (number_at s c) n 0) 0 t ≡ t
  unfolding write_rows
  numbers-kept c t n same = rw (append-nil (rows (number_at s c) n 0)) at (numbers_more c t n [] same)

  pub numbers-back : (xs : List ℕ) (t : List ℕ) → s + length xs ≤ length t → rows (number_at s (write_rows (put_number s) xs 0 t)) (length xs) 0 ≡ xs
  unfolding put_number number_at
  numbers-back xs t l =
      rows_written (put_number s) put_number-length (number_at s) Anything (length t) (length xs)
      (λ u i x e h p. get_or-set_same u (s + i) x 0 (omega arith)) (λ u i j x h p q. get_or-set_other u (s + j) (s + i) x 0 (λ e. omega arith)) xs 0 (omega arith) (all-anything xs) t refl

-- Both sections

-- two counts tables say the same of numbers
abbrev pub SameNumbers : List ℕ → List ℕ → Type 0
SameNumbers c d = (j : ℕ) → tie_numbers_cell ≤ j → get_or d j 0 ≡ get_or c j 0

pub put_numbers-length : (n : RowNumbers) (c : List ℕ) → length (put_numbers n c) ≡ length c
unfolding put_numbers
put_numbers-length n c =
    write_rows-length (put_number tie_numbers_cell) (put_number-length tie_numbers_cell) n.ties 0 (write_rows (put_number subtype_numbers_cell) n.subtypes 0 c)
    ∙ write_rows-length (put_number subtype_numbers_cell) (put_number-length subtype_numbers_cell) n.subtypes 0 c

-- counts and owners stay
pub put_numbers-before : (n : RowNumbers) (c : List ℕ) (j : ℕ) → j < tie_numbers_cell → get_or (put_numbers n c) j 0 ≡ get_or c j 0
unfolding put_numbers
put_numbers-before n c j l =
    numbers-before tie_numbers_cell n.ties 0 (write_rows (put_number subtype_numbers_cell) n.subtypes 0 c) j l
    ∙ numbers-before subtype_numbers_cell n.subtypes 0 c j (omega arith)

-- numbers that were put are read back
pub ties-back : (n : RowNumbers) (c : List ℕ) → tie_numbers_cell + length n.ties ≤ length c
    → rows (number_at tie_numbers_cell (put_numbers n c)) (length n.ties) 0 ≡ n.ties
unfolding put_numbers
ties-back n c l =
    numbers-back tie_numbers_cell n.ties (write_rows (put_number subtype_numbers_cell) n.subtypes 0 c)
    (omega (arith, write_rows-length (put_number subtype_numbers_cell) (put_number-length subtype_numbers_cell) n.subtypes 0 c))

pub subtypes-back : (n : RowNumbers) (c : List ℕ) → length n.ties ≤ 256 → subtype_numbers_cell + length n.subtypes ≤ length c
    → rows (number_at subtype_numbers_cell (put_numbers n c)) (length n.subtypes) 0 ≡ n.subtypes
unfolding put_numbers number_at
subtypes-back n c t l =
    let d : List ℕ = write_rows (put_number subtype_numbers_cell) n.subtypes 0 c in
    rows-cong (number_at subtype_numbers_cell (write_rows (put_number tie_numbers_cell) n.ties 0 d)) (number_at subtype_numbers_cell d) (length n.subtypes) 0
    (λ m a h. numbers-behind tie_numbers_cell n.ties 0 d (subtype_numbers_cell + m) (omega arith))
    ∙ numbers-back subtype_numbers_cell n.subtypes c l

-- Rows posted behind those that were there are numbered on: subtype constraints first, then ties

pub numbered-on : (r : Rows) (us : List Tie) (ss : List Subtype)
    → numbered_on (r.ties ++ us) (r.subtypes ++ ss) r
    ≡ row_numbers (r.numbers.ties ++ numbers_from (length r.ties + length r.subtypes + length ss) (length us))
    (r.numbers.subtypes ++ numbers_from (length r.ties + length r.subtypes) (length ss))
unfolding numbered_on
numbered-on r us ss =
    let a : length (r.ties ++ us) - length r.ties ≡ length us = omega (arith, length-append r.ties us) in
    let b : length (r.subtypes ++ ss) - length r.subtypes ≡ length ss = omega (arith, length-append r.subtypes ss) in
    rw (a, b)

-- ties alone, and none
pub ties-numbered-on : (r : Rows) (us : List Tie)
    → numbered_on (r.ties ++ us) r.subtypes r
    ≡ row_numbers (r.numbers.ties ++ numbers_from (length r.ties + length r.subtypes) (length us)) r.numbers.subtypes
unfolding rows
ties-numbered-on r us =
    let z : length r.ties + length r.subtypes + 0 ≡ length r.ties + length r.subtypes = omega arith in
    rw (append-nil r.subtypes, append-nil r.numbers.subtypes, z) at (numbered-on r us [])

pub none-numbered-on : (r : Rows) → numbered_on r.ties r.subtypes r ≡ r.numbers
unfolding rows
none-numbered-on r = rw (append-nil r.ties, append-nil r.numbers.ties) at (ties-numbered-on r [])
