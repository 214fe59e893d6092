-- Options in sequence, and lists related element by element.
use Rattle.std.specs.Prelude.{◌≡◌, refl, Bool, true, false, ◌⊎◌, ℕ, zero, suc, ◌<◌, length, set}
use Rattle.std.proofs.Common.{sym, ap, inl, inr, arith}
use Rattle.std.proofs.Math.Option.{Option, none, some, none-ne-some, some-injective}
use mathlib.Core.List.{List, [], ◌∷◌, ◌++◌, Memᴰ, reverse, reverse_aux}
use Rattle.std.proofs.Math.ListN.{get_elem?}
use Rattle.definition.specs.Maybe.{◌>>=◌, need}
use Rattle.definition.specs.Lists.{Each}

pub bind-some : {A B : Type 0} (o : Option A) (f : A → Option B) {b : B} → (o >>= f) ≡ some b → (a : A) × (o ≡ some a) × (f a ≡ some b)
unfolding ◌>>=◌
bind-some none f {b} h = absurd (none-ne-some b h)
bind-some (some a) f h = (a, refl, h)

pub some-bind : {A B : Type 0} (o : Option A) (f : A → Option B) {a : A} {b : B} → o ≡ some a → f a ≡ some b → (o >>= f) ≡ some b
unfolding ◌>>=◌
some-bind o f h k = rw (h, ◌>>=◌) k

pub bind-at : {A B : Type 0} (o : Option A) (f : A → Option B) (a : A) → o ≡ some a → (o >>= f) ≡ f a
unfolding ◌>>=◌
bind-at o f a e = rw (e, ◌>>=◌) refl

pub need-true : (t : Bool) {u : Unit {0}} → need t ≡ some u → t ≡ true
unfolding need
need-true true h = refl
need-true false {u} h = absurd (none-ne-some u h)

-- what holds of what was read, if it was read
abbrev pub Holds : {A : Type 0} → Option A → (A → Type 0) → Type 0
Holds none Q = Unit {0}
Holds (some a) Q = Q a

pub holds-past : {A B : Type 0} (Q : B → Type 0) (o : Option A) (f : A → Option B) → ((a : A) → Holds (f a) Q) → Holds (o >>= f) Q
unfolding ◌>>=◌
holds-past Q none f k = tt
holds-past Q (some a) f k = k a

pub holds_on : {A B : Type 0} (P : A → Type 0) (Q : B → Type 0) (o : Option A) (f : A → Option B) → Holds o P → ((a : A) → P a → Holds (f a) Q) → Holds (o >>= f) Q
unfolding ◌>>=◌
holds_on P Q none f h k = tt
holds_on P Q (some a) f h k = k a h

pub holds-need : {B : Type 0} (Q : B → Type 0) (t : Bool) (f : Unit {0} → Option B) → (t ≡ true → Holds (f tt) Q) → Holds (need t >>= f) Q
unfolding ◌>>=◌ need
holds-need Q true f k = k refl
holds-need Q false f k = tt

pub holds_at : {A : Type 0} (Q : A → Type 0) (o : Option A) (a : A) → Holds o Q → o ≡ some a → Q a
holds_at Q none a h e = absurd (none-ne-some a e)
holds_at Q (some b) a h e = rw (some-injective b a e) at h

pub each_more : {A B : Type 0} {R S : A → B → Type 0} → ((x : A) (y : B) → R x y → S x y) → (xs : List A) (ys : List B) → Each R xs ys → Each S xs ys
each_more f [] [] h = tt
each_more f [] (y ∷ ys) h = h
each_more f (x ∷ xs) [] h = h
each_more f (x ∷ xs) (y ∷ ys) h = (f x y h.0, each_more f xs ys h.1)

pub each_at : {A B : Type 0} (R : A → B → Type 0) (xs : List A) (ys : List B) → Each R xs ys → (i : ℕ) (x : A) → get_elem? xs i ≡ some x → (y : B) × (get_elem? ys i ≡ some y) × R x y
each_at R [] ys h i x e = absurd (none-ne-some x e)
each_at R (z ∷ xs) [] h i x e = absurd h
each_at R (z ∷ xs) (y ∷ ys) h zero x e = (y, refl, rw (some-injective z x e) at h.0)
each_at R (z ∷ xs) (y ∷ ys) h (suc i) x e = each_at R xs ys h.1 i x e

pub each_set : {A B : Type 0} (R : A → B → Type 0) (xs : List A) (ys : List B) → Each R xs ys → (i : ℕ) (x : A) (y : B) → get_elem? xs i ≡ some x → R x y → Each R xs (set ys i y)
each_set R [] ys h i x y e r = absurd (none-ne-some x e)
each_set R (z ∷ xs) [] h i x y e r = absurd h
each_set R (z ∷ xs) (w ∷ ys) h zero x y e r = (rw (some-injective z x e) r, h.1)
each_set R (z ∷ xs) (w ∷ ys) h (suc i) x y e r = (h.0, each_set R xs ys h.1 i x y e r)

pub each_both : {A B : Type 0} (R : A → B → Type 0) (xs : List A) (ys : List B) → Each R xs ys → (i : ℕ) (x : A) (y : B) → R x y → Each R (set xs i x) (set ys i y)
each_both R [] [] h i x y r = tt
each_both R [] (w ∷ ys) h i x y r = absurd h
each_both R (z ∷ xs) [] h i x y r = absurd h
each_both R (z ∷ xs) (w ∷ ys) h zero x y r = (r, h.1)
each_both R (z ∷ xs) (w ∷ ys) h (suc i) x y r = (h.0, each_both R xs ys h.1 i x y r)

-- a place of a list in which place j was set
pub nth-set : {A : Type 0} (xs : List A) (j : ℕ) (z : A) (i : ℕ) (x : A) → get_elem? xs i ≡ some x → (y : A) × (get_elem? (set xs j z) i ≡ some y) × ((y ≡ x) ⊎ ((i ≡ j) × (y ≡ z)))
nth-set [] j z i x h = absurd (none-ne-some x h)
nth-set (a ∷ xs) zero z zero x h = (z, refl, inr (refl, refl))
nth-set (a ∷ xs) zero z (suc i) x h = (x, h, inl refl)
nth-set (a ∷ xs) (suc j) z zero x h = (x, h, inl refl)
nth-set (a ∷ xs) (suc j) z (suc i) x h = let r = nth-set xs j z i x h in (r.0, r.1, elim r.2 [ inl e ↦ inl e | inr e ↦ inr (ap suc e.0, e.1) ])

pub set-nth : {A : Type 0} (xs : List A) (j : ℕ) (z : A) (i : ℕ) (y : A) → get_elem? (set xs j z) i ≡ some y → (get_elem? xs i ≡ some y) ⊎ ((i ≡ j) × (y ≡ z))
set-nth [] j z i y h = inl h
set-nth (a ∷ xs) zero z zero y h = inr (refl, sym (some-injective z y h))
set-nth (a ∷ xs) zero z (suc i) y h = inl h
set-nth (a ∷ xs) (suc j) z zero y h = inl h
set-nth (a ∷ xs) (suc j) z (suc i) y h = elim (set-nth xs j z i y h) [ inl e ↦ inl e | inr e ↦ inr (ap suc e.0, e.1) ]

pub set_there : {A : Type 0} (xs : List A) (j : ℕ) (z : A) → j < length xs → get_elem? (set xs j z) j ≡ some z
set_there [] j z h = absurd (omega arith)
set_there (a ∷ xs) zero z h = refl
set_there (a ∷ xs) (suc j) z h = set_there xs j z (omega arith)

pub set_apart : {A : Type 0} (xs : List A) (j : ℕ) (z : A) (i : ℕ) → (i ≡ j → ⊥) → get_elem? (set xs j z) i ≡ get_elem? xs i
set_apart [] j z i h = refl
set_apart (a ∷ xs) zero z zero h = absurd (h refl)
set_apart (a ∷ xs) zero z (suc i) h = refl
set_apart (a ∷ xs) (suc j) z zero h = refl
set_apart (a ∷ xs) (suc j) z (suc i) h = set_apart xs j z i (λ e. h (ap suc e))

-- a place of a list with one more at the end
pub nth-snoc : {A : Type 0} (xs : List A) (z : A) (i : ℕ) (y : A) → get_elem? (xs ++ (z ∷ [])) i ≡ some y → (get_elem? xs i ≡ some y) ⊎ ((i ≡ length xs) × (y ≡ z))
nth-snoc [] z zero y h = inr (refl, sym (some-injective z y h))
nth-snoc [] z (suc i) y h = inl h
nth-snoc (a ∷ xs) z zero y h = inl h
nth-snoc (a ∷ xs) z (suc i) y h = elim (nth-snoc xs z i y h) [ inl e ↦ inl e | inr e ↦ inr (ap suc e.0, e.1) ]

pub nth_last : {A : Type 0} (xs : List A) (z : A) → get_elem? (xs ++ (z ∷ [])) (length xs) ≡ some z
nth_last [] z = refl
nth_last (a ∷ xs) z = nth_last xs z

pub each-more-in : {A B : Type 0} {R S : A → B → Type 0} (xs : List A) (ys : List B) → ((x : A) (y : B) → Memᴰ x xs → R x y → S x y) → Each R xs ys → Each S xs ys
each-more-in [] [] f h = tt
each-more-in [] (y ∷ ys) f h = h
each-more-in (x ∷ xs) [] f h = h
each-more-in (x ∷ xs) (y ∷ ys) f h = (f x y (Memᴰ.head refl) h.0, each-more-in xs ys (λ a b m. f a b (Memᴰ.tail m)) h.1)

pub each-reverse : {A B : Type 0} (R : A → B → Type 0) (xs : List A) (ys : List B) → Each R xs ys → Each R (reverse xs) (reverse ys)
each-reverse {A} {B} R xs ys h = go xs ys [] [] h tt
  where
    go : (xs : List A) (ys : List B) (us : List A) (vs : List B) → Each R xs ys → Each R us vs → Each R (reverse_aux xs us) (reverse_aux ys vs)
    go [] [] us vs h k = k
    go [] (y ∷ ys) us vs h k = absurd h
    go (x ∷ xs) [] us vs h k = absurd h
    go (x ∷ xs) (y ∷ ys) us vs h k = go xs ys (x ∷ us) (y ∷ vs) h.1 (h.0, k)
