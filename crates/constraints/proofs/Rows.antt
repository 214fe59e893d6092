-- What stands in rows, tests of rows, and the order of numbers.
use mathlib.Core.Path.{◌≡◌, refl, sym, ap}
use mathlib.Core.Bool.{Bool, true, false, false≢true, ◌&&◌}
use mathlib.Core.List.Memᴰ
use mathlib.Core.List.{◌∷◌, Memᴰ}
use mathlib.Core.Logic.{◌⊎◌, inl, inr}
use Prim.Native.Nat.{ℕ, zero, suc, ◌+◌, ◌<◌, ◌≤◌}
use native.Mathlib.Nat.{eq-or-lt_of_le}
use native.Mathlib.Omega.{arith}
use lib.Dec.{ltb}
use borrow.Author.Tests.{ltb-true, ltb-false}
use Rattle.definition.specs.Lists.{rows, all}

-- two numbers
pub data Order (a b : ℕ) : Type 0 where
  less : a < b → Order a b
  equal : a ≡ b → Order a b
  more : b < a → Order a b

pub order : (a b : ℕ) → Order a b
order a b = go (ltb a b) refl (ltb b a) refl
  where
    go : (s : Bool) → ltb a b ≡ s → (t : Bool) → ltb b a ≡ t → Order a b
    go true p t q = less (ltb-true a b p)
    go false p true q = more (ltb-true b a q)
    go false p false q = equal (omega (arith, ltb-false a b p, ltb-false b a q))

-- a place of the rows
pub record Place {A : Type 0} (g : ℕ → A) (k i : ℕ) (x : A) : Type 0 where
  pub number : ℕ
  pub low : i ≤ number
  pub high : number < i + k
  pub is : x ≡ g number

module _ {A : Type 0} (g : ℕ → A) where
  pub in_rows : (k i j : ℕ) → i ≤ j → j < i + k → Memᴰ (g j) (rows g k i)
  unfolding rows
  in_rows zero i j l h = absurd (omega arith)
  in_rows (suc k) i j l h = go (eq-or-lt_of_le l) (λ m. in_rows k (suc i) j m (omega arith))
    where
      go : (i ≡ j) ⊎ (i < j) → (i < j → Memᴰ (g j) (rows g k (suc i))) → Memᴰ (g j) (g i ∷ rows g k (suc i))
      go (inl e) f = Memᴰ.head (ap g (sym e))
      go (inr m) f = Memᴰ.tail (f m)

  pub rows_in : (k i : ℕ) (x : A) → Memᴰ x (rows g k i) → Place g k i x
  unfolding rows
  rows_in zero i x m = absurd (Memᴰ.not-nil m)
  rows_in (suc k) i x (Memᴰ.head e) = record { number = i; low = omega arith; high = omega arith; is = e }
  rows_in (suc k) i x (Memᴰ.tail m) =
      let r = rows_in k (suc i) x m in record { number = r.number; low = omega arith; high = omega arith; is = r.is }

-- a test of each row may be made of another list of rows, place by place
pub all_same : {A B : Type 0} (f : A → Bool) (g : ℕ → A) (p : B → Bool) (h : ℕ → B) (k i : ℕ) → ((j : ℕ) → i ≤ j → j < i + k → f (g j) ≡ p (h j))
    → all f (rows g k i) ≡ all p (rows h k i)
unfolding rows all
all_same f g p h zero i e = refl
all_same f g p h (suc k) i e = rw (e i (omega arith) (omega arith))
    (go (p (h i)) (all_same f g p h k (suc i) (λ j l m. e j (omega arith) (omega arith))))
  where
    go : (t : Bool) → all f (rows g k (suc i)) ≡ all p (rows h k (suc i))
        → ◌≡◌ {A = Bool} (elim t as (λ _. Bool) [ true ↦ all f (rows g k (suc i)) | false ↦ false ])
        (elim t as (λ _. Bool) [ true ↦ all p (rows h k (suc i)) | false ↦ false ])
    go true r = r
    go false r = refl

-- both of two tests that hold together
pub both_true : (s t : Bool) → s && t ≡ true → (s ≡ true) × (t ≡ true)
both_true true true h = (refl, refl)
both_true true false h = absurd (false≢true h)
both_true false t h = absurd (false≢true h)
