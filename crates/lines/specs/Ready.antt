-- Lines at the front of an input: how long the first is, whether it is ready, and that lines so cut off are the definition's.
use Rattle.std.specs.Prelude.{◌≡◌, refl, Some, Bool, true, false, List, [], ◌∷◌, ◌++◌, ◌≢◌, ℕ, suc, ◌+◌, ◌≤◌, ◌<◌, get_or, take, drop, eqb, ltb}
use Rattle.std.proofs.Common.{sym, ap, ◌∙◌, append-nil, add-one, drop_of_length-le}
use Rattle.std.proofs.Math.Option.{Option, none, some}
use native.Mathlib.Omega.{arith}
use Rattle.std.proofs.Math.ListN.{length}
use Rattle.std.proofs.Math.Seq.{drop-length}
use Rattle.std.proofs.lemmas.List.{take-append-le, drop-append-le}
use borrow.Author.Tests.{eq-eqb, ne_eqb, eqb-true, eqb-false, lt-ltb, le-ltb, ltb-true, ltb-false}
use Rattle.std.specs.Bool.{then_some}
use Rattle.cells.specs.Optional.{optional}
use Rattle.definition.specs.Script.{grow, lines_of}
use Rattle.script.specs.Parts.{next-byte}
pub use Rattle.lines.specs.declared.Cut.{Cut}

-- how many bytes the first line has: those before the first byte 10, or all
unfoldable pub line_length : List ℕ → ℕ
line_length [] = 0
line_length (b ∷ bs) = elim (eqb b 10) [ true ↦ 0 | false ↦ suc (line_length bs) ]

-- a line at the front of an input: its bytes, and how many with its end
abbrev pub cut : ℕ → ℕ → Cut
cut n k = record { bytes = n; size = k }

-- n bytes with no end are a line if they are too many to be read whatever follows, or if nothing follows them
unfoldable pub alone : Bool → ℕ → Bool
alone last n = elim (ltb 65536 n) [ true ↦ true | false ↦ elim last [ true ↦ ltb 0 n | false ↦ false ] ]

-- the first line, if it is ready; `last` says that nothing follows the input
unfoldable pub first_line : Bool → List ℕ → Option Cut
first_line last s = elim (ltb (line_length s) (length s)) [
  | true ↦ some (cut (line_length s) (line_length s + 1))
  | false ↦ elim (alone last (length s)) [ true ↦ some (cut (length s) (length s)) | false ↦ none ]
]

-- Laws

line-end : (b : ℕ) (bs : List ℕ) → b ≡ 10 → line_length (b ∷ bs) ≡ 0
unfolding line_length
line-end b bs e = rw (eq-eqb b 10 e, line_length)

line-more : (b : ℕ) (bs : List ℕ) → b ≢ 10 → line_length (b ∷ bs) ≡ suc (line_length bs)
unfolding line_length
line-more b bs e = rw (ne_eqb b 10 e, line_length)

-- byte by byte
module _ (s : List ℕ) (i : ℕ) where
  pub length-here : i < length s → get_or s i 0 ≡ 10 → line_length (drop i s) ≡ 0
  length-here h e = rw (next-byte s i h) (line-end (get_or s i 0) (drop (i + 1) s) e)

  pub length-later : i < length s → get_or s i 0 ≢ 10 → line_length (drop i s) ≡ suc (line_length (drop (i + 1) s))
  length-later h e = rw (next-byte s i h) (line-more (get_or s i 0) (drop (i + 1) s) e)

  pub length-end : length s ≤ i → line_length (drop i s) ≡ 0
  unfolding line_length
  length-end h = rw (drop_of_length-le s h)

length_most : (s : List ℕ) → line_length s ≤ length s
unfolding line_length
length_most [] = omega arith
length_most (b ∷ bs) = step (eqb b 10) refl (length_most bs)
  where
    step : (t : Bool) → eqb b 10 ≡ t → line_length bs ≤ length bs → line_length (b ∷ bs) ≤ length (b ∷ bs)
    step true q h = omega (arith, line-end b bs (eqb-true b 10 q))
    step false q h = omega (arith, line-more b bs (eqb-false b 10 q))

-- the first line, by its tests

module _ (last : Bool) (s : List ℕ) where
  first-whole : line_length s < length s → first_line last s ≡ some (cut (line_length s) (line_length s + 1))
  unfolding first_line
  first-whole h = rw (lt-ltb (line_length s) (length s) h, first_line)

  first-open : length s ≤ line_length s → first_line last s ≡ elim (alone last (length s)) as (λ _. Option Cut) [ true ↦ some (cut (length s) (length s)) | false ↦ none ]
  unfolding first_line
  first-open h = rw (le-ltb (line_length s) (length s) h, first_line)

  pub next-whole : line_length s < length s → Some (cut (line_length s) (line_length s + 1)) ≡ optional (first_line last s)
  next-whole h = rw (first-whole h)

  pub next-open : length s ≤ line_length s → then_some (alone last (length s)) (cut (length s) (length s)) ≡ optional (first_line last s)
  next-open h = rw (first-open h) (step (alone last (length s)))
    where
      step : (b : Bool) → then_some b (cut (length s) (length s)) ≡ optional (elim b as (λ _. Option Cut) [ true ↦ some (cut (length s) (length s)) | false ↦ none ])
      step true = refl
      step false = refl

-- no bytes are no line
pub first-none : (last : Bool) → first_line last [] ≡ none
unfolding first_line line_length alone
first-none true = refl
first-none false = refl

-- a line that is ready lies within the input, and takes a byte of it at least
pub record Within (s : List ℕ) (c : Cut) : Type 0 where
  pub bytes : c.bytes ≤ c.size
  pub some : 0 < c.size
  pub size : c.size ≤ length s

-- how a line is ready: it has an end, it is too long, or nothing follows it
pub data Kind (last : Bool) (s : List ℕ) (c : Cut) : Type 0 where
  whole : line_length s < length s → c ≡ cut (line_length s) (line_length s + 1) → Kind last s c
  long : 65536 < length s → line_length s ≡ length s → c ≡ cut (length s) (length s) → Kind last s c
  only : last ≡ true → 0 < length s → line_length s ≡ length s → c ≡ cut (length s) (length s) → Kind last s c

pub first_kind : (last : Bool) (s : List ℕ) (c : Cut) → first_line last s ≡ some c → Kind last s c
unfolding alone
first_kind last s c e = step (ltb (line_length s) (length s)) refl
  where
    bare : line_length s ≡ length s → (t u v : Bool) → ltb 65536 (length s) ≡ t → last ≡ u → ltb 0 (length s) ≡ v
        → elim (elim t as (λ _. Bool) [ true ↦ true | false ↦ elim u as (λ _. Bool) [ true ↦ v | false ↦ false ] ]) as (λ _. Option Cut)
        [ true ↦ some (cut (length s) (length s)) | false ↦ none ] ≡ some c
        → Kind last s c
    bare l true u v p q r f = long (ltb-true 65536 (length s) p) l (cc)
    bare l false true true p q r f = only q (ltb-true 0 (length s) r) l (cc)
    bare l false true false p q r f = let z : ◌≡◌ {A = ℕ} 0 1 = cc in absurd (omega arith)
    bare l false false v p q r f = let z : ◌≡◌ {A = ℕ} 0 1 = cc in absurd (omega arith)

    step : (t : Bool) → ltb (line_length s) (length s) ≡ t → Kind last s c
    step true q =
        let h = ltb-true (line_length s) (length s) q in
        let f : some (cut (line_length s) (line_length s + 1)) ≡ some c = sym (first-whole last s h) ∙ e in
        whole h (cc)
    step false q =
        let h = ltb-false (line_length s) (length s) q in
        bare (omega (arith, length_most s)) (ltb 65536 (length s)) last (ltb 0 (length s)) refl refl refl (sym (first-open last s h) ∙ e)

pub kind-within : (last : Bool) (s : List ℕ) (c : Cut) → Kind last s c → Within s c
kind-within last s c (whole h e) = rw e (record { bytes = omega arith; some = omega arith; size = omega arith })
kind-within last s c (long h l e) = rw e (record { bytes = omega arith; some = omega arith; size = omega arith })
kind-within last s c (only q h l e) = rw e (record { bytes = omega arith; some = omega arith; size = omega arith })

-- Lines cut off one by one are `lines_of`

abbrev LinesFirst : List ℕ → Type 0
LinesFirst s = lines_of s ≡ take (line_length s) s ∷ lines_of (drop (suc (line_length s)) s)

lines_step : (b : ℕ) (bs : List ℕ) → grow b (lines_of bs) ≡ (b ∷ take (line_length bs) bs) ∷ lines_of (drop (suc (line_length bs)) bs) → LinesFirst (b ∷ bs)
unfolding lines_of
lines_step b bs r = step (eqb b 10) refl
  where
    step : (t : Bool) → eqb b 10 ≡ t → LinesFirst (b ∷ bs)
    step true q = rw (line-end b bs (eqb-true b 10 q), q, lines_of)
    step false q = rw (line-more b bs (eqb-false b 10 q), q, lines_of) r

pub lines-first : (b : ℕ) (bs : List ℕ) → LinesFirst (b ∷ bs)
unfolding lines_of line_length grow
lines-first b [] = lines_step b [] refl
lines-first b (d ∷ ds) = lines_step b (d ∷ ds) (ap (grow b) (lines-first d ds))

-- what follows an input's first line end is no part of its first line
pub length-append : (s rest : List ℕ) → line_length s < length s → line_length (s ++ rest) ≡ line_length s
length-append [] rest h = absurd (omega arith)
length-append (b ∷ bs) rest h = step (eqb b 10) refl (λ l. length-append bs rest l)
  where
    step : (t : Bool) → eqb b 10 ≡ t → (line_length bs < length bs → line_length (bs ++ rest) ≡ line_length bs) → line_length (b ∷ bs ++ rest) ≡ line_length (b ∷ bs)
    step true q r = let e = eqb-true b 10 q in line-end b (bs ++ rest) e ∙ sym (line-end b bs e)
    step false q r =
        let e = eqb-false b 10 q in
        line-more b (bs ++ rest) e ∙ ap suc (r (omega (arith, h, line-more b bs e))) ∙ sym (line-more b bs e)

-- bytes with no end among them are the beginning of a line
pub length-beyond : (s rest : List ℕ) → line_length s ≡ length s → length s ≤ line_length (s ++ rest)
length-beyond [] rest h = omega arith
length-beyond (b ∷ bs) rest h = step (eqb b 10) refl (λ l. length-beyond bs rest l)
  where
    step : (t : Bool) → eqb b 10 ≡ t → (line_length bs ≡ length bs → length bs ≤ line_length (bs ++ rest)) → length (b ∷ bs) ≤ line_length (b ∷ bs ++ rest)
    step true q r = absurd (omega (arith, h, line-end b bs (eqb-true b 10 q)))
    step false q r =
        let e = eqb-false b 10 q in
        omega (arith, line-more b (bs ++ rest) e, r (omega (arith, h, line-more b bs e)))

-- the first line of an input with what follows it: one that has an end, and one that nothing follows

pub lines-whole : (s rest : List ℕ) → line_length s < length s → lines_of (s ++ rest) ≡ take (line_length s) s ∷ lines_of (drop (line_length s + 1) s ++ rest)
lines-whole [] rest h = absurd (omega arith)
lines-whole (b ∷ bs) rest h =
    let n = line_length (b ∷ bs) in
    let front : take n (b ∷ bs ++ rest) ≡ take n (b ∷ bs) = take-append-le n (b ∷ bs) rest (omega arith) in
    let back : drop (suc n) (b ∷ bs ++ rest) ≡ drop (suc n) (b ∷ bs) ++ rest = drop-append-le (suc n) (b ∷ bs) rest (omega arith) in
    lines-first b (bs ++ rest) ∙ rw (length-append (b ∷ bs) rest h, front, back, add-one n)

pub lines-only : (s : List ℕ) → 0 < length s → line_length s ≡ length s → lines_of (s ++ []) ≡ take (length s) s ∷ lines_of (drop (length s) s ++ [])
lines-only [] h e = absurd (omega arith)
lines-only (b ∷ bs) h e =
    let n = length (b ∷ bs) in
    let none_left : drop (suc n) (b ∷ bs) ≡ [] = drop_of_length-le (b ∷ bs) {i = suc n} (omega arith) in
    rw (append-nil (b ∷ bs), append-nil (drop n (b ∷ bs)), drop-length (b ∷ bs)) (lines-first b bs ∙ rw (e, none_left))
