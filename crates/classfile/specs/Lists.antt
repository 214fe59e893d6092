-- Laws of tests and searches over lists, and over numbered places that are read as a list (`rows`): one turn of a loop for each of them.
use Rattle.std.specs.Prelude.{◌≡◌, ◌⊎◌, Bool, ℕ, zero, suc, ◌+◌, ◌-◌, ◌≤◌, ◌<◌, length, leb}
use Rattle.std.proofs.Math.Path.{refl, sym, ap}
use Rattle.std.proofs.Common.{◌∙◌, subst, inl, inr, ⊎_elim, eq-or-lt_of_le, arith, leb-true, leb-false}
use Rattle.std.proofs.Math.Bool.{true, false}
use Rattle.std.proofs.lemmas.Bool.{false≢true}
use Rattle.std.proofs.Math.Option.{Option, none, some}
use mathlib.Core.List.{List, [], ◌∷◌, ◌++◌, map}
use Rattle.definition.specs.Lists.{every, any, doubled, index_of, is_some, rows}
use Rattle.layout.specs.Tests.{true-every}
use Rattle.layout.specs.Places.{rows_step, rows_none, rows_start}

-- one number is at most another, or above it
pub le-or-lt : (a b : ℕ) → (a ≤ b) ⊎ (b < a)
le-or-lt a b = go (leb a b) refl
  where
    go : (t : Bool) → leb a b ≡ t → (a ≤ b) ⊎ (b < a)
    go true e = inl (leb-true a b e)
    go false e = inr (leb-false a b e)

-- one fact, and then more
infixr 5 ◌and◌
abbrev pub ◌and◌ : {A B : Type 0} → A → B → A × B
a and b = (a, b)

-- a place counted from i on
unfoldable pub shift : ℕ → Option ℕ → Option ℕ
shift i none = none
shift i (some j) = some (i + j)

pub shift-some : (o : Option ℕ) (i : ℕ) → is_some (shift i o) ≡ is_some o
unfolding is_some shift
shift-some none i = refl
shift-some (some j) i = refl

shift_none : (o : Option ℕ) → shift 0 o ≡ o
unfolding shift
shift_none none = refl
shift_none (some j) = ap {B = Option ℕ} some (omega arith)

shift-shift : (o : Option ℕ) (i j : ℕ) → shift i (shift j o) ≡ shift (i + j) o
unfolding shift
shift-shift none i j = refl
shift-shift (some k) i j = ap {B = Option ℕ} some (omega arith)

-- Tests joined

pub every_first : (t : Bool) (ts : List Bool) → t ≡ true → every (t ∷ ts) ≡ every ts
unfolding every
every_first t ts e = rw (e, every)

pub every-fails : (t : Bool) (ts : List Bool) → t ≡ false → every (t ∷ ts) ≡ false
unfolding every
every-fails t ts e = rw (e, every)

pub every-last : (t : Bool) → every (t ∷ []) ≡ t
unfolding every
every-last true = refl
every-last false = refl

every_two : (t : Bool) (ts : List Bool) → every (t ∷ ts) ≡ true → (t ≡ true) × (every ts ≡ true)
unfolding every
every_two true ts h = (refl, h)
every_two false ts h = absurd (false≢true h)

-- what holds of k numbers from i on
abbrev pub Each : (ℕ → Type 0) → ℕ → ℕ → Type 0
Each P k i = (j : ℕ) → i ≤ j → j < i + k → P j

pub each_more : (P : ℕ → Type 0) (k i : ℕ) → P i → Each P k (suc i) → Each P (suc k) i
each_more P k i h hs j l m = ⊎_elim (λ e. subst P e h) (λ b. hs j b (omega arith)) (eq-or-lt_of_le l)

pub each-rest : (P : ℕ → Type 0) (k i : ℕ) → Each P (suc k) i → P i × Each P k (suc i)
each-rest P k i h = (h i (omega arith) (omega arith), λ j l m. h j (omega arith) (omega arith))

-- a test of each of the numbers
pub each-true : (t : ℕ → Bool) (k i : ℕ) → every (rows t k i) ≡ true → Each (λ j. t j ≡ true) k i
unfolding rows
each-true t zero i h = λ j l m. absurd (omega arith)
each-true t (suc k) i h = let p = every_two (t i) (rows t k (suc i)) h in each_more (λ j. t j ≡ true) k i p.0 (each-true t k (suc i) p.1)

pub true-each : (t : ℕ → Bool) (k i : ℕ) → Each (λ j. t j ≡ true) k i → every (rows t k i) ≡ true
unfolding rows
true-each t zero i h = true-every [] tt
true-each t (suc k) i h = let p = each-rest (λ j. t j ≡ true) k i h in every_first (t i) (rows t k (suc i)) p.0 ∙ true-each t k (suc i) p.1

-- Lists of one more

module _ {A : Type 0} (f : A → Bool) (x : A) (xs : List A) where
  pub any_here : f x ≡ true → any f (x ∷ xs) ≡ true
  unfolding any
  any_here e = rw (e, any)

  pub any-later : f x ≡ false → any f (x ∷ xs) ≡ any f xs
  unfolding any
  any-later e = rw (e, any)

  pub index-here : f x ≡ true → index_of f (x ∷ xs) ≡ some 0
  unfolding index_of
  index-here e = rw (e, index_of)

  pub index-later : f x ≡ false → index_of f (x ∷ xs) ≡ shift 1 (index_of f xs)
  unfolding index_of shift
  index-later e = rw (e, index_of) (go (index_of f xs))
    where
      go : (o : Option ℕ) → (elim o as (λ _. Option ℕ) [ none ↦ none | some i ↦ some (suc i) ]) ≡ shift 1 o
      go none = refl
      go (some i) = ap {B = Option ℕ} some (omega arith)

module _ {A : Type 0} (r : A → A → Bool) (x : A) (xs : List A) where
  pub doubled-here : any (r x) xs ≡ true → doubled r (x ∷ xs) ≡ true
  unfolding doubled
  doubled-here e = rw (e, doubled)

  pub doubled-later : any (r x) xs ≡ false → doubled r (x ∷ xs) ≡ doubled r xs
  unfolding doubled
  doubled-later e = rw (e, doubled)

-- A search of the places from i on: it stops at i, goes on, or ends

module _ {A : Type 0} (f : A → Bool) (g : ℕ → A) (n i : ℕ) where
  pub find-here : i < n → f (g i) ≡ true → shift i (index_of f (rows g (n - i) i)) ≡ some i
  unfolding shift
  find-here h e = rw (rows_step g n i h, index-here f (g i) (rows g (n - (i + 1)) (i + 1)) e) (ap {B = Option ℕ} some (omega arith))

  pub find-later : i < n → f (g i) ≡ false → shift i (index_of f (rows g (n - i) i)) ≡ shift (i + 1) (index_of f (rows g (n - (i + 1)) (i + 1)))
  find-later h e =
      rw (rows_step g n i h, index-later f (g i) (rows g (n - (i + 1)) (i + 1)) e) (shift-shift (index_of f (rows g (n - (i + 1)) (i + 1))) i 1)

  pub find-end : n ≤ i → shift i (index_of f (rows g (n - i) i)) ≡ none
  unfolding shift index_of
  find-end h = rw (rows_none g n i h)

pub find-start : {A : Type 0} (f : A → Bool) (g : ℕ → A) (n : ℕ) → shift 0 (index_of f (rows g (n - 0) 0)) ≡ index_of f (rows g n 0)
find-start f g n = rw (rows_start g n) (shift_none (index_of f (rows g n 0)))

module _ {A : Type 0} (r : A → A → Bool) (g : ℕ → A) (n i : ℕ) where
  pub doubled-row : i < n → any (r (g i)) (rows g (n - (i + 1)) (i + 1)) ≡ true → doubled r (rows g (n - i) i) ≡ true
  doubled-row h e = rw (rows_step g n i h) (doubled-here r (g i) (rows g (n - (i + 1)) (i + 1)) e)

  pub doubled-more : i < n → any (r (g i)) (rows g (n - (i + 1)) (i + 1)) ≡ false
      → doubled r (rows g (n - i) i) ≡ doubled r (rows g (n - (i + 1)) (i + 1))
  doubled-more h e = rw (rows_step g n i h) (doubled-later r (g i) (rows g (n - (i + 1)) (i + 1)) e)

  pub doubled-end : n ≤ i → doubled r (rows g (n - i) i) ≡ false
  unfolding doubled
  doubled-end h = rw (rows_none g n i h)

module _ (t : ℕ → Bool) (n i : ℕ) where
  pub every_more : i < n → t i ≡ true → every (rows t (n - i) i) ≡ every (rows t (n - (i + 1)) (i + 1))
  every_more h e = rw (rows_step t n i h) (every_first (t i) (rows t (n - (i + 1)) (i + 1)) e)

  pub every-not : i < n → t i ≡ false → every (rows t (n - i) i) ≡ false
  every-not h e = rw (rows_step t n i h) (every-fails (t i) (rows t (n - (i + 1)) (i + 1)) e)

  pub every-end : n ≤ i → every (rows t (n - i) i) ≡ true
  unfolding every
  every-end h = rw (rows_none t n i h)

-- Searches, and lists made of lists

module _ {A : Type 0} (f : A → Bool) where
  pub any-index : (xs : List A) → any f xs ≡ is_some (index_of f xs)
  unfolding any index_of is_some
  any-index [] = refl
  any-index (x ∷ xs) = go (f x) refl (any-index xs)
    where
      go : (t : Bool) → f x ≡ t → any f xs ≡ is_some (index_of f xs) → any f (x ∷ xs) ≡ is_some (index_of f (x ∷ xs))
      go true e h = any_here f x xs e ∙ ap is_some (sym (index-here f x xs e))
      go false e h = any-later f x xs e ∙ h ∙ sym (ap is_some (index-later f x xs e) ∙ shift-some (index_of f xs) 1)

  -- a search of two lists, where nothing of the first passes
  pub index-append : (xs ys : List A) → any f xs ≡ false → index_of f (xs ++ ys) ≡ shift (length xs) (index_of f ys)
  unfolding any
  index-append [] ys h = sym (shift_none (index_of f ys))
  index-append (x ∷ xs) ys h = go (f x) refl (index-append xs ys)
    where
      go : (t : Bool) → f x ≡ t → (any f xs ≡ false → index_of f (xs ++ ys) ≡ shift (length xs) (index_of f ys))
          → index_of f (x ∷ (xs ++ ys)) ≡ shift (suc (length xs)) (index_of f ys)
      go true e r = absurd (false≢true (sym h ∙ any_here f x xs e))
      go false e r =
          index-later f x (xs ++ ys) e
          ∙ ap (shift 1) (r (sym (any-later f x xs e) ∙ h))
          ∙ shift-shift (index_of f ys) 1 (length xs)
          ∙ ap (λ (n : ℕ). shift n (index_of f ys)) (omega arith)

module _ {A B : Type 0} (f : B → Bool) (h : A → Bool) (g : A → B) (same : (x : A) → f (g x) ≡ h x) where
  pub any-map : (xs : List A) → any f (map g xs) ≡ any h xs
  unfolding any
  any-map [] = refl
  any-map (x ∷ xs) = λ i. elim (same x i) as (λ _. Bool) [ true ↦ true | false ↦ any-map xs i ]

  pub index-map : (xs : List A) → index_of f (map g xs) ≡ index_of h xs
  unfolding index_of
  index-map [] = refl
  index-map (x ∷ xs) = λ i. elim (same x i) as (λ _. Option ℕ) [
    | true ↦ some 0
    | false ↦ elim (index-map xs i) as (λ _. Option ℕ) [ none ↦ none | some j ↦ some (suc j) ]
  ]
