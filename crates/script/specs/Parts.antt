-- The parts of a line between spaces, read from its front: where the first space is, and a first field that is a number.
use Rattle.std.specs.Prelude.{◌≡◌, refl, Bool, true, false, List, [], ◌∷◌, ◌≢◌, ℕ, suc, ◌+◌, ◌-◌, ◌≤◌, ◌<◌, length, get_or, take, drop, eqb}
use Rattle.std.proofs.Math.Option.{Option, none, some}
use Rattle.std.proofs.Common.{arith, add-one, drop_of_length-le, drop-cons}
use borrow.Author.Tests.{eq-eqb, ne_eqb}
use Rattle.definition.specs.Script.{short, fields, grow}
pub use Rattle.script.specs.declared.Head.{Head}

-- the first space of a list whose first byte is at place i
unfoldable pub space_from : ℕ → List ℕ → Option ℕ
space_from i [] = none
space_from i (b ∷ bs) = elim (eqb b 32) [ true ↦ some i | false ↦ space_from (suc i) bs ]

-- the first field as a number, and the place after its space
unfoldable pub head_read : Option ℕ → ℕ → Option Head
head_read none a = none
head_read (some n) a = some (record { number = n; rest = a })

unfoldable pub head_in : List ℕ → Option ℕ → Option Head
head_in s none = none
head_in s (some i) = head_read (short (take i s)) (i + 1)

unfoldable pub head_of : List ℕ → Option Head
head_of s = head_in s (space_from 0 s)

-- Laws

pub fields-space : (b : ℕ) (bs : List ℕ) → b ≡ 32 → fields (b ∷ bs) ≡ [] ∷ fields bs
unfolding fields
fields-space b bs e = rw (eq-eqb b 32 e, fields)

pub fields-other : (b : ℕ) (bs : List ℕ) → b ≢ 32 → fields (b ∷ bs) ≡ grow b (fields bs)
unfolding fields
fields-other b bs e = rw (ne_eqb b 32 e, fields)

-- byte by byte

module _ (s : List ℕ) (i : ℕ) where
  pub next-byte : i < length s → drop i s ≡ get_or s i 0 ∷ drop (i + 1) s
  next-byte h = rw (add-one, drop-cons s i 0 h)

  pub space-here : i < length s → get_or s i 0 ≡ 32 → space_from i (drop i s) ≡ some i
  unfolding space_from
  space-here h e = rw (next-byte h, eq-eqb (get_or s i 0) 32 e, space_from)

  pub space-later : i < length s → get_or s i 0 ≢ 32 → space_from i (drop i s) ≡ space_from (i + 1) (drop (i + 1) s)
  unfolding space_from
  space-later h e = rw (next-byte h, ne_eqb (get_or s i 0) 32 e, space_from, add-one)

  pub space-end : length s ≤ i → space_from i (drop i s) ≡ none
  unfolding space_from
  space-end h = rw (drop_of_length-le s h)

-- a line with a space is its first field and the fields after the space
pub record Cut (s : List ℕ) (i j : ℕ) : Type 0 where
  pub within : i ≤ j
  pub parts : fields s ≡ take (j - i) s ∷ fields (drop (suc (j - i)) s)

pub space-cut : (s : List ℕ) (i j : ℕ) → space_from i s ≡ some j → Cut s i j
unfolding space_from fields grow
space-cut [] i j e = let z : ◌≡◌ {A = ℕ} 0 1 = cc in absurd (omega arith)
space-cut (b ∷ bs) i j e = step (eqb b 32) refl e (space-cut bs (suc i) j)
  where
    step : (t : Bool) → eqb b 32 ≡ t → elim t as (λ _. Option ℕ) [ true ↦ some i | false ↦ space_from (suc i) bs ] ≡ some j
        → (space_from (suc i) bs ≡ some j → Cut bs (suc i) j) → Cut (b ∷ bs) i j
    step true q e r =
        let here : i ≡ j = cc in
        let none : j - i ≡ 0 = omega arith in
        record { within = omega arith; parts = rw (q, none, fields) }
    step false q e r =
        let c = r e in
        let more : j - i ≡ suc (j - suc i) = omega (arith, c.within) in
        record { within = omega (arith, c.within); parts = rw (q, more, fields, c.parts) }

pub space-none : (s : List ℕ) (i : ℕ) → space_from i s ≡ none → fields s ≡ s ∷ []
unfolding space_from fields grow
space-none [] i e = refl
space-none (b ∷ bs) i e = step (eqb b 32) refl e (space-none bs (suc i))
  where
    step : (t : Bool) → eqb b 32 ≡ t → elim t as (λ _. Option ℕ) [ true ↦ some i | false ↦ space_from (suc i) bs ] ≡ none
        → (space_from (suc i) bs ≡ none → fields bs ≡ bs ∷ []) → fields (b ∷ bs) ≡ (b ∷ bs) ∷ []
    step true q e r = let z : ◌≡◌ {A = ℕ} 0 1 = cc in absurd (omega arith)
    step false q e r = rw (q, fields, r e)

pub space-inside : (s : List ℕ) (i j : ℕ) → space_from i s ≡ some j → j < i + length s
unfolding space_from
space-inside [] i j e = let z : ◌≡◌ {A = ℕ} 0 1 = cc in absurd (omega arith)
space-inside (b ∷ bs) i j e = step (eqb b 32) e (space-inside bs (suc i) j)
  where
    step : (t : Bool) → elim t as (λ _. Option ℕ) [ true ↦ some i | false ↦ space_from (suc i) bs ] ≡ some j
        → (space_from (suc i) bs ≡ some j → j < suc i + length bs) → j < i + length (b ∷ bs)
    step true e r = let here : i ≡ j = cc in omega arith
    step false e r = omega (arith, r e)
