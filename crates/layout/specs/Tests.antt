-- What tests on lists mean: what holds of each of a list, and the tests that say so.
use Rattle.std.specs.Prelude.{◌≡◌, refl, Bool, true, false, List, [], ◌∷◌, ◌++◌, ℕ, zero, suc}
use Rattle.std.proofs.Common.{sym}
use Rattle.std.proofs.lemmas.Bool.{false≢true}
use Rattle.std.proofs.Math.Option.{Option, none, some}
use Rattle.definition.specs.Lists.{every, all, all_from, is_some, filled}

-- what holds of each
abbrev pub All : {A : Type 0} → (A → Type 0) → List A → Type 0
All P [] = Unit {0}
All P (x ∷ xs) = P x × All P xs

-- what holds of each with its place, counted from c
abbrev pub From : {A : Type 0} → (ℕ → A → Type 0) → ℕ → List A → Type 0
From P c [] = Unit {0}
From P c (x ∷ xs) = P c x × From P (suc c) xs

-- Tests joined

abbrev pub Truths : List Bool → Type 0
Truths bs = All (λ b. b ≡ true) bs

pub every_true : (bs : List Bool) → every bs ≡ true → Truths bs
unfolding every
every_true [] h = tt
every_true (true ∷ bs) h = (refl, every_true bs h)
every_true (false ∷ bs) h = absurd (false≢true h)

pub true-every : (bs : List Bool) → Truths bs → every bs ≡ true
unfolding every
true-every [] h = refl
true-every (true ∷ bs) h = true-every bs h.1
true-every (false ∷ bs) h = absurd (false≢true h.0)

-- two tests that pass together are one
pub same_test : (a b : Bool) → (a ≡ true → b ≡ true) → (b ≡ true → a ≡ true) → a ≡ b
same_test true b f g = sym (f refl)
same_test false true f g = g refl
same_test false false f g = refl

-- Tests of each

pub all-all : {A : Type 0} (f : A → Bool) (P : A → Type 0) → ((x : A) → f x ≡ true → P x) → (xs : List A) → all f xs ≡ true → All P xs
unfolding all
all-all f P g [] h = tt
all-all f P g (x ∷ xs) h = go (f x) refl h (all-all f P g xs)
  where
    go : (t : Bool) → f x ≡ t → (elim t as (λ _. Bool) [ true ↦ all f xs | false ↦ false ]) ≡ true → (all f xs ≡ true → All P xs) → P x × All P xs
    go true e r ih = (g x e, ih r)
    go false e r ih = absurd (false≢true r)

pub all-test : {A : Type 0} (f : A → Bool) (P : A → Type 0) → ((x : A) → P x → f x ≡ true) → (xs : List A) → All P xs → all f xs ≡ true
unfolding all
all-test f P g [] h = refl
all-test f P g (x ∷ xs) h = rw (g x h.0, all) (all-test f P g xs h.1)

pub from_all : {A : Type 0} (f : ℕ → A → Bool) (P : ℕ → A → Type 0) → ((c : ℕ) (x : A) → f c x ≡ true → P c x) → (c : ℕ) (xs : List A) → all_from f c xs ≡ true
    → From P c xs
unfolding all_from
from_all f P g c [] h = tt
from_all f P g c (x ∷ xs) h = go (f c x) refl h (from_all f P g (suc c) xs)
  where
    go : (t : Bool) → f c x ≡ t → (elim t as (λ _. Bool) [ true ↦ all_from f (suc c) xs | false ↦ false ]) ≡ true
        → (all_from f (suc c) xs ≡ true → From P (suc c) xs) → P c x × From P (suc c) xs
    go true e r ih = (g c x e, ih r)
    go false e r ih = absurd (false≢true r)

pub all-from : {A : Type 0} (f : ℕ → A → Bool) (P : ℕ → A → Type 0) → ((c : ℕ) (x : A) → P c x → f c x ≡ true) → (c : ℕ) (xs : List A) → From P c xs
    → all_from f c xs ≡ true
unfolding all_from
all-from f P g c [] h = refl
all-from f P g c (x ∷ xs) h = rw (g c x h.0, all_from) (all-from f P g (suc c) xs h.1)

pub is-some : {A : Type 0} (o : Option A) → is_some o ≡ true → (a : A) × (o ≡ some a)
unfolding is_some
is-some none h = absurd (false≢true h)
is-some (some a) h = (a, refl)

pub some_is : {A : Type 0} (o : Option A) (a : A) → o ≡ some a → is_some o ≡ true
unfolding is_some
some_is o a h = rw (h, is_some) refl

-- Lists of which each holds something

pub all_more : {A : Type 0} {P Q : A → Type 0} → ((x : A) → P x → Q x) → (xs : List A) → All P xs → All Q xs
all_more f [] h = tt
all_more f (x ∷ xs) h = (f x h.0, all_more f xs h.1)

pub all_both : {A : Type 0} (P : A → Type 0) (xs ys : List A) → All P xs → All P ys → All P (xs ++ ys)
all_both P [] ys h k = k
all_both P (x ∷ xs) ys h k = (h.0, all_both P xs ys h.1 k)

pub all-parts : {A : Type 0} (P : A → Type 0) (xs ys : List A) → All P (xs ++ ys) → All P xs × All P ys
all-parts P [] ys h = (tt, h)
all-parts P (x ∷ xs) ys h = let i = all-parts P xs ys h.1 in ((h.0, i.0), i.1)

pub all-filled : {A : Type 0} (P : A → Type 0) (k : ℕ) (d : A) (xs : List A) → P d → All P xs → All P (filled k d xs)
unfolding filled
all-filled P zero d xs p h = tt
all-filled P (suc k) d [] p h = (p, all-filled P k d [] p tt)
all-filled P (suc k) d (x ∷ xs) p h = (h.0, all-filled P k d xs p h.1)

pub all-each : {A : Type 0} (P : A → Type 0) → ((x : A) → P x) → (xs : List A) → All P xs
all-each P f [] = tt
all-each P f (x ∷ xs) = (f x, all-each P f xs)

pub from_more : {A : Type 0} (P Q : ℕ → A → Type 0) → ((c : ℕ) (x : A) → P c x → Q c x) → (c : ℕ) (xs : List A) → From P c xs → From Q c xs
from_more P Q f c [] h = tt
from_more P Q f c (x ∷ xs) h = (f c x h.0, from_more P Q f (suc c) xs h.1)
