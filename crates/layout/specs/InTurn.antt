-- What numbers in turn are, both ways: those of both tables together are exactly 0 to k − 1, each once, and they rise along each table. And numbers in turn that
-- are numbered on, in either table, are in turn.
use Rattle.std.specs.Prelude.{◌≡◌, Bool, true, false, ◌⊎◌, ℕ, zero, suc, ◌+◌, ◌-◌, ◌<◌, ◌≤◌, length, take, eqb}
use Rattle.std.proofs.Math.Path.{refl}
use Rattle.std.proofs.Common.{sym, subst, inl, inr, arith, length-append, length-take-le, eqb-true, eq-eqb, ne_eqb}
use Rattle.std.proofs.lemmas.Bool.{false≢true, eqb-false}
use mathlib.Core.List.Memᴰ
use mathlib.Core.List.{List, [], ◌∷◌, ◌++◌, Memᴰ}
use Rattle.definition.specs.Lists.{rows}
use Rattle.definition.specs.Constraints.{Tie, Subtype}
use Rattle.definition.specs.Tables.{RowNumbers, Rows}
use Rattle.definition.specs.Broken.{next, others, in_turn, numbered}
use Rattle.definition.specs.Calls.{numbers_from, numbered_on}
use Rattle.layout.specs.Tests.{All, all_more}
use Rattle.layout.specs.Places.{rows-length}
use Rattle.layout.specs.Whole.{Numbered, Numbering}

-- The next number stands next in the first list, or else in the second

abbrev Turn : ℕ → ℕ → List ℕ → List ℕ → Type 0
Turn n k ts ss =
    ((next k ts ≡ true) × (in_turn n (suc k) (others ts) ss ≡ true)) ⊎ ((next k ts ≡ false) × ((next k ss ≡ true) × (in_turn n (suc k) ts (others ss) ≡ true)))

turn_is : (n k : ℕ) (ts ss : List ℕ) → in_turn (suc n) k ts ss ≡ true → Turn n k ts ss
unfolding in_turn
turn_is n k ts ss h = go (next k ts) refl h
  where
    go : (b : Bool) → next k ts ≡ b
        → elim b as (λ _. Bool) [ true ↦ in_turn n (suc k) (others ts) ss | false ↦ elim (next k ss) as (λ _. Bool) [ true ↦ in_turn n (suc k) ts (others ss) | false ↦ false ] ] ≡ true
        → Turn n k ts ss
    go true e h = inl (e, h)
    go false e h = then (next k ss) refl h
      where
        then : (c : Bool) → next k ss ≡ c → elim c as (λ _. Bool) [ true ↦ in_turn n (suc k) ts (others ss) | false ↦ false ] ≡ true → Turn n k ts ss
        then true f h = inr (e, (f, h))
        then false f h = absurd (false≢true h)

is-turn : (n k : ℕ) (ts ss : List ℕ) → Turn n k ts ss → in_turn (suc n) k ts ss ≡ true
unfolding in_turn
is-turn n k ts ss (inl h) = rw (h.0, in_turn) h.1
is-turn n k ts ss (inr h) = rw (h.0, h.1.0, in_turn) h.1.1

-- Numbered on

fresh-ties : (m k : ℕ) → in_turn m k (numbers_from k m) [] ≡ true
unfolding in_turn next others rows
fresh-ties zero k = refl
fresh-ties (suc m) k = is-turn m k (numbers_from k (suc m)) [] (inl (eq-eqb k k refl, fresh-ties m (suc k)))

fresh-subtypes : (m k : ℕ) → in_turn m k [] (numbers_from k m) ≡ true
unfolding in_turn next others rows
fresh-subtypes zero k = refl
fresh-subtypes (suc m) k = is-turn m k [] (numbers_from k (suc m)) (inr (refl, (eq-eqb k k refl, fresh-subtypes m (suc k))))

later : (k j m : ℕ) (xs : List ℕ) → k < j → next k xs ≡ false → next k (xs ++ numbers_from j m) ≡ false
unfolding next rows
later k j zero [] l h = refl
later k j (suc m) [] l h = ne_eqb j k (λ e. omega arith)
later k j m (x ∷ xs) l h = h

-- n numbers from k on, and m more from j on
pub more-ties : (n k m j p : ℕ) (ts ss : List ℕ) → length ts + length ss ≡ n → j ≡ k + n → p ≡ n + m → in_turn n k ts ss ≡ true
    → in_turn p k (ts ++ numbers_from j m) ss ≡ true
unfolding next others
more-ties zero k m j p [] [] l e q h = let a : j ≡ k = omega arith in let b : p ≡ m = omega arith in rw (a, b) (fresh-ties m k)
more-ties zero k m j p [] (s ∷ ss) l e q h = absurd (omega arith)
more-ties zero k m j p (t ∷ ts) ss l e q h = absurd (omega arith)
more-ties (suc n) k m j zero ts ss l e q h = absurd (omega arith)
more-ties (suc n) k m j (suc p) ts ss l e q h = go (λ xs ys z i. more-ties n (suc k) m j p xs ys z (omega arith) (omega arith) i) ts ss l (turn_is n k ts ss h)
  where
    go : ((xs ys : List ℕ) → length xs + length ys ≡ n → in_turn n (suc k) xs ys ≡ true → in_turn p (suc k) (xs ++ numbers_from j m) ys ≡ true)
        → (ts ss : List ℕ) → length ts + length ss ≡ suc n → Turn n k ts ss → in_turn (suc p) k (ts ++ numbers_from j m) ss ≡ true
    go on [] ss l (inl a) = absurd (false≢true a.0)
    go on (t ∷ ts) ss l (inl a) = is-turn p k (t ∷ (ts ++ numbers_from j m)) ss (inl (a.0, on ts ss (omega arith) a.1))
    go on ts [] l (inr a) = absurd (false≢true a.1.0)
    go on ts (s ∷ ss) l (inr a) = is-turn p k (ts ++ numbers_from j m) (s ∷ ss) (inr (later k j m ts (omega arith) a.0, (a.1.0, on ts ss (omega arith) a.1.1)))

pub more-subtypes : (n k m j p : ℕ) (ts ss : List ℕ) → length ts + length ss ≡ n → j ≡ k + n → p ≡ n + m → in_turn n k ts ss ≡ true
    → in_turn p k ts (ss ++ numbers_from j m) ≡ true
unfolding next others
more-subtypes zero k m j p [] [] l e q h = let a : j ≡ k = omega arith in let b : p ≡ m = omega arith in rw (a, b) (fresh-subtypes m k)
more-subtypes zero k m j p [] (s ∷ ss) l e q h = absurd (omega arith)
more-subtypes zero k m j p (t ∷ ts) ss l e q h = absurd (omega arith)
more-subtypes (suc n) k m j zero ts ss l e q h = absurd (omega arith)
more-subtypes (suc n) k m j (suc p) ts ss l e q h = go (λ xs ys z i. more-subtypes n (suc k) m j p xs ys z (omega arith) (omega arith) i) ts ss l (turn_is n k ts ss h)
  where
    go : ((xs ys : List ℕ) → length xs + length ys ≡ n → in_turn n (suc k) xs ys ≡ true → in_turn p (suc k) xs (ys ++ numbers_from j m) ≡ true)
        → (ts ss : List ℕ) → length ts + length ss ≡ suc n → Turn n k ts ss → in_turn (suc p) k ts (ss ++ numbers_from j m) ≡ true
    go on [] ss l (inl a) = absurd (false≢true a.0)
    go on (t ∷ ts) ss l (inl a) = is-turn p k (t ∷ ts) (ss ++ numbers_from j m) (inl (a.0, on ts ss (omega arith) a.1))
    go on ts [] l (inr a) = absurd (false≢true a.1.0)
    go on ts (s ∷ ss) l (inr a) = is-turn p k ts (s ∷ (ss ++ numbers_from j m)) (inr (a.0, (a.1.0, on ts ss (omega arith) a.1.1)))

-- Both at once: a store's rows with more of them, all of which have numbers in turn

pub numbering-on : (r : Rows) → Numbering r → (ts : List Tie) (ss : List Subtype) → length r.ties ≤ length ts → length r.subtypes ≤ length ss
    → Numbered (length ts) (length ss) (numbered_on ts ss r)
unfolding numbered_on numbered
numbering-on r h ts ss a b = record {
  ties = ties;
  subtypes = subtypes;
  turn = rw (ties, subtypes) (more-ties (length r.ties + length ss) 0 m (k + n) (length ts + length ss) r.numbers.ties (r.numbers.subtypes ++ numbers_from k n)
      (omega (arith, subtypes, h.ties)) (omega arith) (omega arith)
      (more-subtypes k 0 n k (length r.ties + length ss) r.numbers.ties r.numbers.subtypes (omega (arith, h.ties, h.subtypes)) (omega arith) (omega arith)
      (rw (h.ties, h.subtypes) at h.turn)));
}
  where
    k : ℕ
    k = length r.ties + length r.subtypes

    n : ℕ
    n = length ss - length r.subtypes

    m : ℕ
    m = length ts - length r.ties

    ties : length (r.numbers.ties ++ numbers_from (k + n) m) ≡ length ts
    ties = omega (arith, length-append r.numbers.ties (numbers_from (k + n) m), rows-length (λ i. i) m (k + n), h.ties)

    subtypes : length (r.numbers.subtypes ++ numbers_from k n) ≡ length ss
    subtypes = omega (arith, length-append r.numbers.subtypes (numbers_from k n), rows-length (λ i. i) n k, h.subtypes)

-- In words

-- they rise, the first of them k or more
abbrev pub RisesFrom : ℕ → List ℕ → Type 0
RisesFrom k [] = Unit {0}
RisesFrom k (x ∷ xs) = (k ≤ x) × RisesFrom (suc x) xs

-- the numbers of both lists together are exactly the n from k on, each once, and they rise along each list
pub record Exactly (n k : ℕ) (ts ss : List ℕ) : Type 0 where
  pub ties : RisesFrom k ts
  pub subtypes : RisesFrom k ss
  pub within : (i : ℕ) → Memᴰ i ts ⊎ Memᴰ i ss → (k ≤ i) × (i < k + n)
  pub each : (i : ℕ) → k ≤ i → i < k + n → Memᴰ i ts ⊎ Memᴰ i ss
  pub once : (i : ℕ) → Memᴰ i ts → Memᴰ i ss → ⊥

rises-less : (j k : ℕ) (xs : List ℕ) → j ≤ k → RisesFrom k xs → RisesFrom j xs
rises-less j k [] l h = tt
rises-less j k (x ∷ xs) l h = (omega (arith, h.0), h.1)

rises-at : (k : ℕ) (xs : List ℕ) → RisesFrom k xs → (i : ℕ) → Memᴰ i xs → k ≤ i
rises-at k [] h i never = elim never [ ]
rises-at k (x ∷ xs) h i (Memᴰ.head e) = omega (arith, h.0, e)
rises-at k (x ∷ xs) h i (Memᴰ.tail m) = omega (arith, h.0, rises-at (suc x) xs h.1 i m)

same_or : (i k : ℕ) → (i ≡ k) ⊎ (i ≡ k → ⊥)
same_or i k = go (eqb i k) refl
  where
    go : (b : Bool) → eqb i k ≡ b → (i ≡ k) ⊎ (i ≡ k → ⊥)
    go true e = inl (eqb-true i k e)
    go false e = inr (eqb-false i k e)

above : (i k : ℕ) → k ≤ i → (i ≡ k → ⊥) → suc k ≤ i
above i k l d = omega arith

-- what rises from k on and doesn't have k rises from the next on
rises-without : (k : ℕ) (xs : List ℕ) → RisesFrom k xs → (Memᴰ k xs → ⊥) → RisesFrom (suc k) xs
rises-without k [] h f = tt
rises-without k (x ∷ xs) h f = (elim (same_or x k) [ inl e ↦ absurd (f (Memᴰ.head (sym e))) | inr d ↦ above x k h.0 d ], h.1)

-- the number k stands first in a list that rises from k on and has it
first-there : (k x : ℕ) (xs : List ℕ) → RisesFrom k (x ∷ xs) → Memᴰ k (x ∷ xs) → x ≡ k
first-there k x xs h (Memᴰ.head e) = sym e
first-there k x xs h (Memᴰ.tail m) = absurd (omega (arith, h.0, rises-at (suc x) xs h.1 k m))

-- one more before them
exactly-tie : (n k : ℕ) (ts ss : List ℕ) → Exactly n (suc k) ts ss → Exactly (suc n) k (k ∷ ts) ss
exactly-tie n k ts ss h = record {
  ties = (omega arith, h.ties);
  subtypes = rises-less k (suc k) ss (omega arith) h.subtypes;
  within = within;
  each = λ i a l. elim (same_or i k) [ inl e ↦ inl (Memᴰ.head e) | inr d ↦ elim (h.each i (above i k a d) (omega arith)) [ inl m ↦ inl (Memᴰ.tail m) | inr m ↦ inr m ] ];
  once = once;
}
  where
    within : (i : ℕ) → Memᴰ i (k ∷ ts) ⊎ Memᴰ i ss → (k ≤ i) × (i < k + suc n)
    within i (inl (Memᴰ.head e)) = (omega (arith, e), omega (arith, e))
    within i (inl (Memᴰ.tail m)) = let w = h.within i (inl m) in (omega (arith, w.0), omega (arith, w.1))
    within i (inr m) = let w = h.within i (inr m) in (omega (arith, w.0), omega (arith, w.1))

    once : (i : ℕ) → Memᴰ i (k ∷ ts) → Memᴰ i ss → ⊥
    once i (Memᴰ.head e) m = omega (arith, e, (h.within i (inr m)).0)
    once i (Memᴰ.tail t) m = h.once i t m

swap : (n k : ℕ) (ts ss : List ℕ) → Exactly n k ts ss → Exactly n k ss ts
swap n k ts ss h = record {
  ties = h.subtypes;
  subtypes = h.ties;
  within = λ i m. h.within i (turned m);
  each = λ i a l. turned (h.each i a l);
  once = λ i a b. h.once i b a;
}
  where
    turned : {A B : Type 0} → A ⊎ B → B ⊎ A
    turned (inl a) = inr a
    turned (inr b) = inl b

pub turn-words : (n k : ℕ) (ts ss : List ℕ) → length ts + length ss ≡ n → in_turn n k ts ss ≡ true → Exactly n k ts ss
unfolding next others
turn-words zero k [] [] l h = record {
  ties = tt;
  subtypes = tt;
  within = λ i m. elim m [ inl a ↦ absurd (Memᴰ.not-nil a) | inr a ↦ absurd (Memᴰ.not-nil a) ];
  each = λ i a b. absurd (omega arith);
  once = λ i a b. absurd (Memᴰ.not-nil a);
}
turn-words zero k [] (s ∷ ss) l h = absurd (omega arith)
turn-words zero k (t ∷ ts) ss l h = absurd (omega arith)
turn-words (suc n) k ts ss l h = go (λ xs ys z i. turn-words n (suc k) xs ys z i) ts ss l (turn_is n k ts ss h)
  where
    go : ((xs ys : List ℕ) → length xs + length ys ≡ n → in_turn n (suc k) xs ys ≡ true → Exactly n (suc k) xs ys)
        → (ts ss : List ℕ) → length ts + length ss ≡ suc n → Turn n k ts ss → Exactly (suc n) k ts ss
    go on [] ss l (inl a) = absurd (false≢true a.0)
    go on (t ∷ ts) ss l (inl a) = subst (λ (x : ℕ). Exactly (suc n) k (x ∷ ts) ss) (sym (eqb-true t k a.0)) (exactly-tie n k ts ss (on ts ss (omega arith) a.1))
    go on ts [] l (inr a) = absurd (false≢true a.1.0)
    go on ts (s ∷ ss) l (inr a) =
        subst (λ (x : ℕ). Exactly (suc n) k ts (x ∷ ss)) (sym (eqb-true s k a.1.0))
        (swap (suc n) k (k ∷ ss) ts (exactly-tie n k ss ts (swap n (suc k) ts ss (on ts ss (omega arith) a.1.1))))

-- and without the first
exactly-rest : (n k : ℕ) (ts ss : List ℕ) → Exactly (suc n) k (k ∷ ts) ss → Exactly n (suc k) ts ss
exactly-rest n k ts ss h = record {
  ties = h.ties.1;
  subtypes = rises-without k ss h.subtypes (h.once k (Memᴰ.head refl));
  within = λ i m. (above-first i m, elim m [ inl a ↦ omega (arith, (h.within i (inl (Memᴰ.tail a))).1) | inr a ↦ omega (arith, (h.within i (inr a)).1) ]);
  each = λ i a l. elim (h.each i (omega arith) (omega arith)) [ inl m ↦ inl (behind i a m) | inr m ↦ inr m ];
  once = λ i a b. h.once i (Memᴰ.tail a) b;
}
  where
    above-first : (i : ℕ) → Memᴰ i ts ⊎ Memᴰ i ss → suc k ≤ i
    above-first i (inl m) = rises-at (suc k) ts h.ties.1 i m
    above-first i (inr m) = rises-at (suc k) ss (rises-without k ss h.subtypes (h.once k (Memᴰ.head refl))) i m

    behind : (i : ℕ) → suc k ≤ i → Memᴰ i (k ∷ ts) → Memᴰ i ts
    behind i a (Memᴰ.head e) = absurd (omega (arith, e))
    behind i a (Memᴰ.tail m) = m

pub words-turn : (n k : ℕ) (ts ss : List ℕ) → Exactly n k ts ss → in_turn n k ts ss ≡ true
unfolding in_turn next others
words-turn zero k ts ss h = refl
words-turn (suc n) k ts ss h = go ts ss h (h.each k (omega arith) (omega arith)) (λ xs ys e. words-turn n (suc k) xs ys e)
  where
    not-next : (ts ss : List ℕ) → Exactly (suc n) k ts ss → Memᴰ k ss → next k ts ≡ false
    not-next [] ss h m = refl
    not-next (t ∷ ts) ss h m = ne_eqb t k (λ e. h.once k (Memᴰ.head (sym e)) m)

    go : (ts ss : List ℕ) → Exactly (suc n) k ts ss → Memᴰ k ts ⊎ Memᴰ k ss → ((xs ys : List ℕ) → Exactly n (suc k) xs ys → in_turn n (suc k) xs ys ≡ true)
        → in_turn (suc n) k ts ss ≡ true
    go [] ss h (inl m) on = absurd (Memᴰ.not-nil m)
    go (t ∷ ts) ss h (inl m) on =
        let e = first-there k t ts h.ties m in
        is-turn n k (t ∷ ts) ss (inl (eq-eqb t k e, on ts ss (exactly-rest n k ts ss (subst (λ (x : ℕ). Exactly (suc n) k (x ∷ ts) ss) e h))))
    go ts [] h (inr m) on = absurd (Memᴰ.not-nil m)
    go ts (s ∷ ss) h (inr m) on =
        let e = first-there k s ss h.subtypes m in
        is-turn n k ts (s ∷ ss) (inr (
          not-next ts (s ∷ ss) h m,
          (
            eq-eqb s k e,
            on ts ss (swap n (suc k) ss ts (exactly-rest n k ss ts (swap (suc n) k ts (k ∷ ss) (subst (λ (x : ℕ). Exactly (suc n) k ts (x ∷ ss)) e h)))),
          ),
        ))

-- so the numbers of both tables' rows, k of them, are exactly 0 to k − 1, each once, and rise along each table
abbrev pub InWords : RowNumbers → Type 0
InWords n = Exactly (length n.ties + length n.subtypes) 0 n.ties n.subtypes

pub in-turn-words : (n : RowNumbers) → numbered n ≡ true → InWords n
unfolding numbered
in-turn-words n h = turn-words _ 0 n.ties n.subtypes refl h

pub words-in-turn : (n : RowNumbers) → InWords n → numbered n ≡ true
unfolding numbered
words-in-turn n h = words-turn _ 0 n.ties n.subtypes h

-- each is below their count
pub numbers-below : (t s : ℕ) (n : RowNumbers) → Numbered t s n → All (λ i. i < t + s) n.ties × All (λ i. i < t + s) n.subtypes
numbers-below t s n h =
    let w = in-turn-words n h.turn in (
      all-members n.ties (λ i m. omega (arith, (w.within i (inl m)).1, h.ties, h.subtypes)),
      all-members n.subtypes (λ i m. omega (arith, (w.within i (inr m)).1, h.ties, h.subtypes)),
    )
  where
    all-members : {P : ℕ → Type 0} (xs : List ℕ) → ((i : ℕ) → Memᴰ i xs → P i) → All P xs
    all-members [] f = tt
    all-members (x ∷ xs) f = (f x (Memᴰ.head refl), all-members xs (λ i m. f i (Memᴰ.tail m)))

-- The first numbers of each table, as a taking back leaves them, are in turn exactly if each is below their count; the other way is `numbers-below`

rises-first : (k a : ℕ) (xs : List ℕ) → RisesFrom k xs → RisesFrom k (take a xs)
rises-first k zero xs h = tt
rises-first k (suc a) [] h = tt
rises-first k (suc a) (x ∷ xs) h = (h.0, rises-first (suc x) a xs h.1)

rises-far : (k m : ℕ) (xs : List ℕ) → RisesFrom k xs → All (λ i. i < m) xs → k ≤ m → k + length xs ≤ m
rises-far k m [] h a l = omega arith
rises-far k m (x ∷ xs) h a l = let f = rises-far (suc x) m xs h.1 a.1 (omega (arith, a.0)) in omega (arith, f, h.0)

next-first : (k a : ℕ) (xs : List ℕ) → next k xs ≡ false → next k (take a xs) ≡ false
unfolding next
next-first k zero xs h = refl
next-first k (suc a) [] h = refl
next-first k (suc a) (x ∷ xs) h = h

pub first-turn : (n k a b p : ℕ) (ts ss : List ℕ) → p ≡ a + b → length ts + length ss ≡ n → in_turn n k ts ss ≡ true → a ≤ length ts → b ≤ length ss
    → All (λ i. i < k + p) (take a ts) → All (λ i. i < k + p) (take b ss) → in_turn p k (take a ts) (take b ss) ≡ true
unfolding next others
first-turn n k a b zero ts ss q l h c d x y = unfold in_turn in refl
first-turn zero k a b (suc p) ts ss q l h c d x y = absurd (omega arith)
first-turn (suc n) k a b (suc p) ts ss q l h c d x y =
    go (λ a b ts ss q l h c d x y. first-turn n (suc k) a b p ts ss q l h c d x y) ts ss l (turn_is n k ts ss h) a b q c d x y
  where
    shift : (xs : List ℕ) → All (λ i. i < k + suc p) xs → All (λ i. i < suc k + p) xs
    shift xs h = all_more (λ i l. omega arith) xs h

    go : ((a b : ℕ) (ts ss : List ℕ) → p ≡ a + b → length ts + length ss ≡ n → in_turn n (suc k) ts ss ≡ true → a ≤ length ts → b ≤ length ss → All (λ i. i < suc k + p) (take a ts)
        → All (λ i. i < suc k + p) (take b ss) → in_turn p (suc k) (take a ts) (take b ss) ≡ true)
        → (ts ss : List ℕ) → length ts + length ss ≡ suc n → Turn n k ts ss → (a b : ℕ) → suc p ≡ a + b → a ≤ length ts → b ≤ length ss → All (λ i. i < k + suc p) (take a ts)
        → All (λ i. i < k + suc p) (take b ss) → in_turn (suc p) k (take a ts) (take b ss) ≡ true
    go on [] ss l (inl h) a b q c d x y = absurd (false≢true h.0)
    go on (t ∷ ts) ss l (inl h) zero b q c d x y =
        let w = turn-words n (suc k) ts ss (omega arith) h.1 in
        let f = rises-far (suc k) (k + suc p) (take b ss) (rises-first (suc k) b ss w.subtypes) y (omega arith) in
        absurd (omega (arith, f, length-take-le b ss d))
    go on (t ∷ ts) ss l (inl h) (suc a) b q c d x y =
        is-turn p k (t ∷ take a ts) (take b ss) (inl (h.0, on a b ts ss (omega arith) (omega arith) h.1 (omega arith) d (shift (take a ts) x.1) (shift (take b ss) y)))
    go on ts [] l (inr h) a b q c d x y = absurd (false≢true h.1.0)
    go on ts (s ∷ ss) l (inr h) a zero q c d x y =
        let w = turn-words n (suc k) ts ss (omega arith) h.1.1 in
        let f = rises-far (suc k) (k + suc p) (take a ts) (rises-first (suc k) a ts w.ties) x (omega arith) in
        absurd (omega (arith, f, length-take-le a ts c))
    go on ts (s ∷ ss) l (inr h) a (suc b) q c d x y =
        is-turn p k (take a ts) (s ∷ take b ss)
        (inr (next-first k a ts h.0, (h.1.0, on a b ts ss (omega arith) (omega arith) h.1.1 c (omega arith) (shift (take a ts) x) (shift (take b ss) y.1))))
