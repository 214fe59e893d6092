-- Lists of row numbers in the order of their earliest difference, over any order on numbers: what it is that one goes before another; and of a choice of lists
-- one is first, and no other is before it. At the end stands the order that reasons are listed by.
use Rattle.std.specs.Prelude.{◌≡◌, Bool, ◌⊎◌, length, ltb}
use Rattle.std.proofs.Math.Path.{refl}
use Rattle.std.proofs.Common.{sym, ◌∙◌, arith, ltb-true, ltb-false, lt-ltb, le-ltb}
use Rattle.std.proofs.Math.Bool.{true, false}
use Rattle.std.proofs.lemmas.Bool.{false≢true}
use Rattle.std.proofs.Math.Option.{Option, none, some, none-ne-some, some-injective}
use mathlib.Core.List.{List, [], ◌∷◌, Memᴰ}
use Rattle.std.proofs.Math.Logic.{inl, inr}
use Prim.Native.Nat.{ℕ, zero, suc, ◌<◌}
use Rattle.std.proofs.Math.ListN.{get_or}
use Rattle.definition.specs.Reasons.{precedes, earlier, first_of, newer}

-- an order: of two numbers one goes before the other, or they are one
pub record Order (before : ℕ → ℕ → Bool) : Type 0 where
  pub only_one : (m n : ℕ) → before m n ≡ true → before n m ≡ false
  pub onward : (m n o : ℕ) → before m n ≡ true → before n o ≡ true → before m o ≡ true
  pub total : (m n : ℕ) → before m n ≡ false → before n m ≡ false → m ≡ n

-- two lists of one length: up to a position they have the same numbers, and there the first's goes before the second's
pub record FirstDiffers (before : ℕ → ℕ → Bool) (ns ms : List ℕ) : Type 0 where
  pub at : ℕ
  pub within : at < length ns
  pub same : (j : ℕ) → j < at → get_or ns j 0 ≡ get_or ms j 0
  pub goes : before (get_or ns at 0) (get_or ms at 0) ≡ true

module _ {before : ℕ → ℕ → Bool} (order : Order before) where
  -- the first list isn't before the second
  abbrev pub NotBefore : List ℕ → List ℕ → Type 0
  NotBefore ns ms = precedes before ns ms ≡ false

  pub itself : (n : ℕ) → before n n ≡ false
  itself n = go (before n n) refl
    where
      go : (t : Bool) → before n n ≡ t → before n n ≡ false
      go true e = order.only_one n n e
      go false e = e

  pub number-on : (m n o : ℕ) → before m n ≡ false → before n o ≡ false → before m o ≡ false
  number-on m n o h k = go (before m o) refl (before n m) refl
    where
      go : (s : Bool) → before m o ≡ s → (t : Bool) → before n m ≡ t → s ≡ false
      go true e true f = absurd (false≢true (sym k ∙ order.onward n m o f e))
      go true e false f = absurd (false≢true (sym k ∙ rw (order.total m n h f) at e))
      go false e t f = refl

  -- the first difference decides

  pub later-head : (n m : ℕ) (ns ms : List ℕ) → before m n ≡ true → NotBefore (n ∷ ns) (m ∷ ms)
  unfolding precedes
  later-head n m ns ms h = rw (order.only_one m n h, h, precedes) refl

  pub same_head : (n : ℕ) (ns ms : List ℕ) → NotBefore ns ms → NotBefore (n ∷ ns) (n ∷ ms)
  unfolding precedes
  same_head n ns ms h = rw (itself n, precedes) (rw (itself n) h)

  heads : (n m : ℕ) (ns ms : List ℕ) → NotBefore (n ∷ ns) (m ∷ ms) → (before m n ≡ true) ⊎ ((n ≡ m) × NotBefore ns ms)
  unfolding precedes
  heads n m ns ms h = go (before n m) (before m n) refl refl h
    where
      go : (s t : Bool) → before n m ≡ s → before m n ≡ t → (elim s as (λ _. Bool) [ true ↦ true | false ↦ elim t as (λ _. Bool) [ true ↦ false | false ↦ precedes before ns ms ] ]) ≡ false
          → (before m n ≡ true) ⊎ ((n ≡ m) × NotBefore ns ms)
      go true t p q r = absurd (false≢true (sym r))
      go false true p q r = inl q
      go false false p q r = inr (order.total n m p q, r)

  pub not_itself : (ns : List ℕ) → NotBefore ns ns
  unfolding precedes
  not_itself [] = refl
  not_itself (n ∷ ns) = same_head n ns ns (not_itself ns)

  pub not-before-on : (ns ms os : List ℕ) → NotBefore ns ms → NotBefore ms os → NotBefore ns os
  unfolding precedes
  not-before-on [] [] os h k = k
  not-before-on [] (m ∷ ms) os h k = absurd (false≢true (sym h))
  not-before-on (n ∷ ns) [] [] h k = refl
  not-before-on (n ∷ ns) (m ∷ ms) [] h k = refl
  not-before-on (n ∷ ns) [] (o ∷ os) h k = absurd (false≢true (sym k))
  not-before-on (n ∷ ns) (m ∷ ms) (o ∷ os) h k = go (heads n m ns ms h) (heads m o ms os k) (not-before-on ns ms os)
    where
      go : (before m n ≡ true) ⊎ ((n ≡ m) × NotBefore ns ms) → (before o m ≡ true) ⊎ ((m ≡ o) × NotBefore ms os) → (NotBefore ns ms → NotBefore ms os → NotBefore ns os) → NotBefore (n ∷ ns) (o ∷ os)
      go (inl a) (inl b) f = later-head n o ns os (order.onward o m n b a)
      go (inl a) (inr b) f = later-head n o ns os (rw b.0 at a)
      go (inr a) (inl b) f = later-head n o ns os (rw a.0 b)
      go (inr a) (inr b) f = rw (a.0 ∙ b.0) (same_head o ns os (f a.1 b.1))

  -- two of which neither is before the other are one list
  pub neither-before : (ns ms : List ℕ) → NotBefore ns ms → NotBefore ms ns → ns ≡ ms
  unfolding precedes
  neither-before [] [] h k = refl
  neither-before [] (m ∷ ms) h k = absurd (false≢true (sym h))
  neither-before (n ∷ ns) [] h k = absurd (false≢true (sym k))
  neither-before (n ∷ ns) (m ∷ ms) h k = go (heads n m ns ms h) (heads m n ms ns k) (neither-before ns ms)
    where
      go : (before m n ≡ true) ⊎ ((n ≡ m) × NotBefore ns ms) → (before n m ≡ true) ⊎ ((m ≡ n) × NotBefore ms ns) → (NotBefore ns ms → NotBefore ms ns → ns ≡ ms) → (n ∷ ns) ≡ (m ∷ ms)
      go (inl a) (inl b) f = absurd (false≢true (sym (order.only_one m n a) ∙ b))
      go (inl a) (inr b) f = absurd (false≢true (sym (itself n) ∙ rw b.0 at a))
      go (inr a) (inl b) f = absurd (false≢true (sym (itself m) ∙ rw a.0 at b))
      go (inr a) (inr b) f = λ i. a.0 i ∷ f a.1 b.1 i

  pub before-not : (ns ms : List ℕ) → precedes before ns ms ≡ true → NotBefore ms ns
  unfolding precedes
  before-not [] [] h = refl
  before-not [] (m ∷ ms) h = refl
  before-not (n ∷ ns) [] h = absurd (false≢true h)
  before-not (n ∷ ns) (m ∷ ms) h = go (before n m) (before m n) refl refl (before-not ns ms) h
    where
      go : (s t : Bool) → before n m ≡ s → before m n ≡ t → (precedes before ns ms ≡ true → NotBefore ms ns) → (elim s as (λ _. Bool) [ true ↦ true | false ↦ elim t as (λ _. Bool) [ true ↦ false | false ↦ precedes before ns ms ] ]) ≡ true → NotBefore (m ∷ ms) (n ∷ ns)
      go true t p q f r = later-head m n ms ns p
      go false true p q f r = absurd (false≢true r)
      go false false p q f r = rw (order.total n m p q) (same_head m ms ns (f r))

  -- of two lists of one length that one goes before the other which has the number that goes first at the earliest position where they differ
  pub precedes-words : (ns ms : List ℕ) → length ns ≡ length ms → precedes before ns ms ≡ true → FirstDiffers before ns ms
  unfolding precedes
  precedes-words [] [] l h = absurd (false≢true h)
  precedes-words [] (m ∷ ms) l h = absurd (omega arith)
  precedes-words (n ∷ ns) [] l h = absurd (omega arith)
  precedes-words (n ∷ ns) (m ∷ ms) l h = go (before n m) (before m n) refl refl h (precedes-words ns ms (omega arith))
    where
      go : (s t : Bool) → before n m ≡ s → before m n ≡ t → (elim s as (λ _. Bool) [ true ↦ true | false ↦ elim t as (λ _. Bool) [ true ↦ false | false ↦ precedes before ns ms ] ]) ≡ true
          → (precedes before ns ms ≡ true → FirstDiffers before ns ms) → FirstDiffers before (n ∷ ns) (m ∷ ms)
      go true t p q r f = record { at = 0; within = omega arith; same = λ j k. absurd (omega arith); goes = p }
      go false true p q r f = absurd (false≢true r)
      go false false p q r f = let d = f r in record { at = suc d.at; within = omega (arith, d.within); same = λ j k. here j k (order.total n m p q) d.same; goes = d.goes }
        where
          here : {i : ℕ} (j : ℕ) → j < suc i → n ≡ m → ((k : ℕ) → k < i → get_or ns k 0 ≡ get_or ms k 0) → get_or (n ∷ ns) j 0 ≡ get_or (m ∷ ms) j 0
          here zero k e f = e
          here (suc j) k e f = f j (omega arith)

  precedes-from : (ns ms : List ℕ) (i : ℕ) → length ns ≡ length ms → i < length ns → ((j : ℕ) → j < i → get_or ns j 0 ≡ get_or ms j 0) → before (get_or ns i 0) (get_or ms i 0) ≡ true
      → precedes before ns ms ≡ true
  unfolding precedes
  precedes-from [] ms i l k s g = absurd (omega arith)
  precedes-from (n ∷ ns) [] i l k s g = absurd (omega arith)
  precedes-from (n ∷ ns) (m ∷ ms) zero l k s g = rw (g, precedes) refl
  precedes-from (n ∷ ns) (m ∷ ms) (suc i) l k s g =
      let e : n ≡ m = s 0 (omega arith) in
      rw e (rw (itself m, precedes) (rw (itself m) (precedes-from ns ms i (omega arith) (omega arith) (λ j h. s (suc j) (omega arith)) g)))

  pub words-precede : (ns ms : List ℕ) → length ns ≡ length ms → FirstDiffers before ns ms → precedes before ns ms ≡ true
  words-precede ns ms l d = precedes-from ns ms d.at l d.within d.same d.goes

  -- a choice has a first, and ns isn't before it
  abbrev pub Has : Option (List ℕ) → List ℕ → Type 0
  Has o ns = (ms : List ℕ) × (o ≡ some ms) × NotBefore ns ms

  pub earlier-from : (o p : Option (List ℕ)) (ns : List ℕ) → earlier before o p ≡ some ns → (o ≡ some ns) ⊎ (p ≡ some ns)
  unfolding earlier
  earlier-from none p ns h = inr h
  earlier-from (some a) none ns h = inl h
  earlier-from (some a) (some b) ns h = go (precedes before b a) h
    where
      go : (t : Bool) → (elim t as (λ _. Option (List ℕ)) [ true ↦ some b | false ↦ some a ]) ≡ some ns → (some a ≡ some ns) ⊎ (some b ≡ some ns)
      go true r = inr r
      go false r = inl r

  pub earlier-one : (o p : Option (List ℕ)) (ns : List ℕ) → o ≡ some ns → Has (earlier before o p) ns
  unfolding earlier
  earlier-one none p ns h = absurd (none-ne-some ns h)
  earlier-one (some a) none ns h = (ns, h, not_itself ns)
  earlier-one (some a) (some b) ns h = go (precedes before b a) refl
    where
      go : (t : Bool) → precedes before b a ≡ t → (ms : List ℕ) × ((elim t as (λ _. Option (List ℕ)) [ true ↦ some b | false ↦ some a ]) ≡ some ms) × NotBefore ns ms
      go true e = (b, refl, rw (some-injective a ns h) at (before-not b a e))
      go false e = (ns, h, not_itself ns)

  pub earlier-two : (o p : Option (List ℕ)) (ns : List ℕ) → p ≡ some ns → Has (earlier before o p) ns
  unfolding earlier
  earlier-two none p ns h = (ns, h, not_itself ns)
  earlier-two (some a) none ns h = absurd (none-ne-some ns h)
  earlier-two (some a) (some b) ns h = go (precedes before b a) refl
    where
      go : (t : Bool) → precedes before b a ≡ t → (ms : List ℕ) × ((elim t as (λ _. Option (List ℕ)) [ true ↦ some b | false ↦ some a ]) ≡ some ms) × NotBefore ns ms
      go true e = (ns, h, not_itself ns)
      go false e = (a, refl, rw (some-injective b ns h) at e)

  pub has_on : (o : Option (List ℕ)) (ns ms : List ℕ) → NotBefore ns ms → Has o ms → Has o ns
  has_on o ns ms h k = (k.0, k.1, not-before-on ns ms k.0 h k.2)

  module _ {A : Type 0} (f : A → Option (List ℕ)) where
    pub first-from : (xs : List A) (ns : List ℕ) → first_of before f xs ≡ some ns → (x : A) × Memᴰ x xs × (f x ≡ some ns)
    unfolding first_of
    first-from [] ns h = absurd (none-ne-some ns h)
    first-from (x ∷ xs) ns h = elim (earlier-from (f x) (first_of before f xs) ns h) [
      | inl e ↦ (x, Memᴰ.head refl, e)
      | inr e ↦ (let r = first-from xs ns e in (r.0, Memᴰ.tail r.1, r.2))
    ]

    pub first-has : (xs : List A) (x : A) (ns : List ℕ) → Memᴰ x xs → f x ≡ some ns → Has (first_of before f xs) ns
    unfolding first_of
    first-has [] x ns never h = elim never [ ]
    first-has (y ∷ xs) x ns (Memᴰ.head e) h = earlier-one (f y) (first_of before f xs) ns (rw e at h)
    first-has (y ∷ xs) x ns (Memᴰ.tail m) h = let r = first-has xs x ns m h in has_on (earlier before (f y) (first_of before f xs)) ns r.0 r.2 (earlier-two (f y) (first_of before f xs) r.0 r.1)

-- the lower number first
pub lower-first : Order ltb
lower-first = record {
  only_one = λ m n h. le-ltb n m (omega (arith, ltb-true m n h));
  onward = λ m n o h k. lt-ltb m o (omega (arith, ltb-true m n h, ltb-true n o k));
  total = λ m n h k. omega (arith, ltb-false m n h, ltb-false n m k);
}

-- an order read the other way is one
pub order-turned : {before : ℕ → ℕ → Bool} → Order before → Order (λ m n. before n m)
order-turned o = record { only_one = λ m n h. o.only_one n m h; onward = λ m n p h k. o.onward p n m k h; total = λ m n h k. o.total m n k h }

-- The order of a reason's rows, here and nowhere else: the newer row goes first

abbrev pub row_before : ℕ → ℕ → Bool
row_before = newer

pub row-order : Order row_before
row-order = order-turned lower-first
