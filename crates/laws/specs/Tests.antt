-- Tests on lists, and what they find.
use Rattle.std.specs.Prelude.{◌≡◌, refl, Bool, true, false, ◌&&◌, ◌||◌, ◌⊎◌, ℕ, suc}
use Rattle.std.proofs.Common.{sym, inl, inr}
use Rattle.std.proofs.lemmas.Bool.{false≢true}
use Rattle.std.proofs.Math.Option.{Option, none, some, none-ne-some, some-injective}
use mathlib.Core.List.{List, [], ◌∷◌, ◌++◌, Memᴰ}
use Rattle.std.proofs.Math.ListN.{get_elem?}
use Rattle.definition.specs.Lists.{any, index_of, is_none}

pub and-true : (a b : Bool) → (a && b) ≡ true → (a ≡ true) × (b ≡ true)
and-true true b h = (refl, h)
and-true false b h = absurd (false≢true h)

pub or-true : (a b : Bool) → (a || b) ≡ true → (a ≡ true) ⊎ (b ≡ true)
or-true true b h = inl refl
or-true false b h = inr h

pub none_is : {A : Type 0} (o : Option A) → is_none o ≡ true → o ≡ none
unfolding is_none
none_is none h = refl
none_is (some a) h = absurd (false≢true h)

pub any-true : {A : Type 0} (f : A → Bool) (xs : List A) → any f xs ≡ true → (x : A) × Memᴰ x xs × (f x ≡ true)
unfolding any
any-true f [] h = absurd (false≢true h)
any-true {A} f (x ∷ xs) h = go (f x) refl h (any-true f xs)
  where
    go : (t : Bool) → f x ≡ t → (elim t as (λ _. Bool) [ true ↦ true | false ↦ any f xs ]) ≡ true → (any f xs ≡ true → (y : A) × Memᴰ y xs × (f y ≡ true)) → (y : A) × Memᴰ y (x ∷ xs) × (f y ≡ true)
    go true e r ih = (x, Memᴰ.head refl, e)
    go false e r ih = let a = ih r in (a.0, Memᴰ.tail a.1, a.2)

pub any_false : {A : Type 0} (f : A → Bool) (xs : List A) → any f xs ≡ false → (x : A) → Memᴰ x xs → f x ≡ false
unfolding any
any_false {A = A} f [] h x never = elim never [ ]
any_false {A} f (y ∷ xs) h x m = go (f y) refl h m (any_false f xs)
  where
    go : (t : Bool) → f y ≡ t → (elim t as (λ _. Bool) [ true ↦ true | false ↦ any f xs ]) ≡ false → Memᴰ x (y ∷ xs) → (any f xs ≡ false → (z : A) → Memᴰ z xs → f z ≡ false) → f x ≡ false
    go true e r m ih = absurd (false≢true (sym r))
    go false e r (Memᴰ.head z) ih = rw z e
    go false e r (Memᴰ.tail t) ih = ih r x t

pub any-right : {A : Type 0} (f : A → Bool) (xs ys : List A) → any f ys ≡ true → any f (xs ++ ys) ≡ true
unfolding any
any-right f [] ys h = h
any-right f (x ∷ xs) ys h = go (f x) (any-right f xs ys h)
  where
    go : (t : Bool) → any f (xs ++ ys) ≡ true → (elim t as (λ _. Bool) [ true ↦ true | false ↦ any f (xs ++ ys) ]) ≡ true
    go true r = refl
    go false r = r

pub any_append : {A : Type 0} (f : A → Bool) (xs ys : List A) → any f (xs ++ ys) ≡ (any f xs || any f ys)
unfolding any
any_append f [] ys = refl
any_append f (x ∷ xs) ys = go (f x) (any_append f xs ys)
  where
    go : (t : Bool) → any f (xs ++ ys) ≡ (any f xs || any f ys)
        → (elim t as (λ _. Bool) [ true ↦ true | false ↦ any f (xs ++ ys) ]) ≡ ((elim t as (λ _. Bool) [ true ↦ true | false ↦ any f xs ]) || any f ys)
    go true e = refl
    go false e = e

pub any-there : {A : Type 0} (f : A → Bool) (xs : List A) (x : A) → Memᴰ x xs → f x ≡ true → any f xs ≡ true
unfolding any
any-there {A = A} f [] x never h = elim never [ ]
any-there f (y ∷ xs) x (Memᴰ.head z) h = let e : f y ≡ true = rw z at h in rw (e, any) refl
any-there f (y ∷ xs) x (Memᴰ.tail m) h = any-right f (y ∷ []) xs (any-there f xs x m h)

pub record Found {A : Type 0} (f : A → Bool) (xs : List A) : Type 0 where
  pub place : ℕ
  pub item : A
  pub index : index_of f xs ≡ some place
  pub there : get_elem? xs place ≡ some item
  pub passes : f item ≡ true

pub any_found : {A : Type 0} (f : A → Bool) (xs : List A) → any f xs ≡ true → Found f xs
unfolding any index_of
any_found f [] h = absurd (false≢true h)
any_found {A} f (x ∷ xs) h = go (f x) refl h (any_found f xs)
  where
    go : (t : Bool) → f x ≡ t → (elim t as (λ _. Bool) [ true ↦ true | false ↦ any f xs ]) ≡ true → (any f xs ≡ true → Found f xs) → Found f (x ∷ xs)
    go true e r ih = record { place = 0; item = x; index = rw (e, index_of) refl; there = refl; passes = e }
    go false e r ih = let a = ih r in record { place = suc a.place; item = a.item; index = rw (e, index_of) (rw a.index refl); there = a.there; passes = a.passes }

-- what stands at the place that was found
pub index-found : {A : Type 0} (f : A → Bool) (xs : List A) (j : ℕ) → index_of f xs ≡ some j → (x : A) × (get_elem? xs j ≡ some x) × (f x ≡ true)
unfolding index_of
index-found f [] j h = absurd (none-ne-some j h)
index-found {A} f (x ∷ xs) j h = go (f x) refl h (index-found f xs)
  where
    later : (o : Option ℕ) → ((i : ℕ) → o ≡ some i → (y : A) × (get_elem? xs i ≡ some y) × (f y ≡ true))
        → (elim o as (λ _. Option ℕ) [ none ↦ none | some i ↦ some (suc i) ]) ≡ some j → (y : A) × (get_elem? (x ∷ xs) j ≡ some y) × (f y ≡ true)
    later none ih r = absurd (none-ne-some j r)
    later (some i) ih r = let y = ih i refl in rw (← some-injective (suc i) j r) (y.0, y.1, y.2)

    go : (u : Bool) → f x ≡ u → (elim u as (λ _. Option ℕ) [ true ↦ some 0 | false ↦ elim (index_of f xs) as (λ _. Option ℕ) [ none ↦ none | some i ↦ some (suc i) ] ]) ≡ some j
        → ((i : ℕ) → index_of f xs ≡ some i → (y : A) × (get_elem? xs i ≡ some y) × (f y ≡ true)) → (y : A) × (get_elem? (x ∷ xs) j ≡ some y) × (f y ≡ true)
    go true q e ih = rw (← some-injective 0 j e) (x, refl, q)
    go false q e ih = later (index_of f xs) ih e
