-- What is read of numbers that were written, and what the definition numbers.
use mathlib.Core.Path.{◌≡◌, sym, ap, ◌∙◌}
use mathlib.Core.Bool.{true, false}
use mathlib.Core.List.{List, [], ◌++◌}
use Prim.Native.Nat.{ℕ, ◌+◌, ◌-◌, ◌<◌, ◌≤◌}
use native.Mathlib.Omega.{arith}
use lib.ListN.{length, get_or, length-append}
use Rattle.definition.specs.Numbers.{counts_length, tie_numbers_cell, subtype_numbers_cell}
use Rattle.definition.specs.Lists.{rows}
use Rattle.definition.specs.Constraints.{Tie, Subtype}
use Rattle.definition.specs.Tables.{Tables, tables, row_numbers, number_at, put_numbers, tie_at, subtype_at, ties_of, subtypes_of, numbers_of, view, view_over}
use Rattle.definition.specs.Broken.{numbered, broken}
use Rattle.definition.specs.Calls.{numbers_from, numbered_on}
use Rattle.layout.specs.Places.{rows-length, rows-cong}
use Rattle.layout.specs.Fills.{both-numbered}
use Rattle.layout.specs.NumberedRows.{SameNumbers, put_numbers-before, ties-back, subtypes-back}
use Rattle.layout.specs.InTurn.{numbering-on}
use Rattle.layout.specs.Unbroken.{broken-false}
use Rattle.entries.specs.World.{numbers_in}
use Rattle.loading.specs.Writing.{numbers_on, numbers_after, Grown}

-- Numbers written behind those of n into c, which has the same numbers: what is read then

module _ (n c : List ℕ) (i j : ℕ) (g : Grown n i j) (long : length c ≡ counts_length) (same : SameNumbers n c) (ci : get_or c 3 0 ≡ i) (cj : get_or c 4 0 ≡ j) where
  written : numbers_on n i j c ≡ put_numbers (numbers_after n i j) c
  unfolding numbers_on numbers_after
  written =
      let us : List ℕ = numbers_from (get_or n 3 0 + j) (i - get_or n 3 0) in
      let ss : List ℕ = numbers_from (get_or n 3 0 + get_or n 4 0) (j - get_or n 4 0) in
      let room : get_or n 3 0 + length us ≤ 256 = omega (arith, rows-length (λ x. x) (i - get_or n 3 0) (get_or n 3 0 + j), g.ties, g.ties_few) in
      let space : get_or n 4 0 + length ss ≤ 256 = omega (arith, rows-length (λ x. x) (j - get_or n 4 0) (get_or n 3 0 + get_or n 4 0), g.subtypes, g.subtypes_few) in
      sym ((both-numbered (tables n [] [] [] [] [] [] []) us ss room space).cells c same)

  pub counts-kept : (x : ℕ) → x < 264 → get_or (numbers_on n i j c) x 0 ≡ get_or c x 0
  counts-kept x h = ap (λ (y : List ℕ). get_or y x 0) written ∙ put_numbers-before (numbers_after n i j) c x h

  ties-counted : length (numbers_after n i j).ties ≡ i
  unfolding numbers_after
  ties-counted =
      omega (
        arith,
        length-append (rows (number_at tie_numbers_cell n) (get_or n 3 0) 0) (numbers_from (get_or n 3 0 + j) (i - get_or n 3 0)),
        rows-length (number_at tie_numbers_cell n) (get_or n 3 0) 0,
        rows-length (λ x. x) (i - get_or n 3 0) (get_or n 3 0 + j),
        g.ties,
      )

  subtypes-counted : length (numbers_after n i j).subtypes ≡ j
  unfolding numbers_after
  subtypes-counted =
      omega (
        arith,
        length-append (rows (number_at subtype_numbers_cell n) (get_or n 4 0) 0) (numbers_from (get_or n 3 0 + get_or n 4 0) (j - get_or n 4 0)),
        rows-length (number_at subtype_numbers_cell n) (get_or n 4 0) 0,
        rows-length (λ x. x) (j - get_or n 4 0) (get_or n 3 0 + get_or n 4 0),
        g.subtypes,
      )

  pub numbers-read : numbers_in (numbers_on n i j c) ≡ numbers_after n i j
  numbers-read =
      let a : get_or (numbers_on n i j c) 3 0 ≡ length (numbers_after n i j).ties = counts-kept 3 (omega arith) ∙ (ci ∙ sym ties-counted) in
      let b : get_or (numbers_on n i j c) 4 0 ≡ length (numbers_after n i j).subtypes = counts-kept 4 (omega arith) ∙ (cj ∙ sym subtypes-counted) in
      (λ z. row_numbers (rows (number_at tie_numbers_cell (written z)) (a z) 0) (rows (number_at subtype_numbers_cell (written z)) (b z) 0))
      ∙ (λ z. row_numbers (ties-back (numbers_after n i j) c (omega (arith, ties-counted, g.ties_few)) z)
      (subtypes-back (numbers_after n i j) c (omega (arith, ties-counted, g.ties_few)) (omega (arith, subtypes-counted, g.subtypes_few)) z))

-- they are the same of counts that say the same of ties, subtype constraints and numbers
pub numbers-same : (n m : List ℕ) (i j : ℕ) → get_or m 3 0 ≡ get_or n 3 0 → get_or m 4 0 ≡ get_or n 4 0 → SameNumbers n m → numbers_after m i j ≡ numbers_after n i j
unfolding numbers_after number_at
numbers-same n m i j a b same = λ z. row_numbers
    ((ap (λ (y : ℕ). rows (number_at tie_numbers_cell m) y 0) a
    ∙ rows-cong (number_at tie_numbers_cell m) (number_at tie_numbers_cell n) (get_or n 3 0) 0 (λ x p h. same (tie_numbers_cell + x) (omega arith))) z ++ numbers_from (a z + j) (i - a z))
    ((ap (λ (y : ℕ). rows (number_at subtype_numbers_cell m) y 0) b
    ∙ rows-cong (number_at subtype_numbers_cell m) (number_at subtype_numbers_cell n) (get_or n 4 0) 0 (λ x p h. same (subtype_numbers_cell + x) (omega arith))) z ++ numbers_from (a z + b z) (j - b z))

-- The numbers that the definition gives to so many rows, of a store that isn't broken

module _ (t : Tables) (sound : broken t ≡ false) (ts : List Tie) (ss : List Subtype) (g : Grown t.counts (length ts) (length ss)) where
  pub numbers-given : numbered_on ts ss (view t) ≡ numbers_after t.counts (length ts) (length ss)
  unfolding numbered_on numbers_after view view_over
  numbers-given =
      let a : length (ties_of t) ≡ get_or t.counts 3 0 = rows-length (tie_at t.ties) (get_or t.counts 3 0) 0 in
      let b : length (subtypes_of t) ≡ get_or t.counts 4 0 = rows-length (subtype_at t.subtypes) (get_or t.counts 4 0) 0 in
      let p : length (ties_of t) + length (subtypes_of t) + (length ss - length (subtypes_of t)) ≡ get_or t.counts 3 0 + length ss = omega (arith, g.subtypes) in
      let q : length ts - length (ties_of t) ≡ length ts - get_or t.counts 3 0 = omega arith in
      let r : length (ties_of t) + length (subtypes_of t) ≡ get_or t.counts 3 0 + get_or t.counts 4 0 = omega arith in
      let s : length ss - length (subtypes_of t) ≡ length ss - get_or t.counts 4 0 = omega arith in
      λ z. row_numbers ((numbers_of t).ties ++ numbers_from (p z) (q z)) ((numbers_of t).subtypes ++ numbers_from (r z) (s z))

  pub numbers-in-turn : numbered (numbers_after t.counts (length ts) (length ss)) ≡ true
  unfolding view view_over
  numbers-in-turn =
      ap numbered (sym numbers-given)
      ∙ (numbering-on (view t) (broken-false t sound).1.numbers ts ss (omega (arith, g.ties, rows-length (tie_at t.ties) (get_or t.counts 3 0) 0))
      (omega (arith, g.subtypes, rows-length (subtype_at t.subtypes) (get_or t.counts 4 0) 0))).turn
