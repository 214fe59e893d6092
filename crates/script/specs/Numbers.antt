-- Decimal numbers read digit by digit.
use Rattle.std.proofs.Math.Path.{◌≡◌, refl}
use Rattle.std.proofs.Common.{◌∙◌, arith, drop_of_length-le}
use Rattle.std.specs.Prelude.{Bool, ◌≢◌, ℕ, ◌+◌, ◌-◌, ◌*◌, ◌%◌, ◌≤◌, ◌<◌, length, get_or, drop}
use Rattle.std.proofs.Math.Bool.{true, false}
use Rattle.std.proofs.Math.Option.{Option, none, some}
use mathlib.Core.List.{List, [], ◌∷◌}
use Rattle.std.proofs.Math.Dec.{leb}
use borrow.Author.Tests.{le-leb, lt-leb, leb-true, leb-false, eq-eqb, ne_eqb}
use Rattle.definition.specs.Maybe.{◌>>=◌, need}
use Rattle.definition.specs.Script.{digit, digits, decimal, up_to, int}

-- at most m
unfoldable pub at_most : ℕ → ℕ → Option ℕ
at_most m n = need (leb n m) >>= λ _. some n

-- n with the digit b after it, at most m
unfoldable pub extended : ℕ → ℕ → ℕ → Option ℕ
extended m n b = digit b >>= λ d. at_most m (n * 10 + d)

-- n with digits after it, at most m
unfoldable pub bounded : ℕ → ℕ → List ℕ → Option ℕ
bounded m n bs = digits n bs >>= at_most m

-- Laws

pub bind-none : {A B : Type 0} (o : Option A) (f : A → Option B) → ((a : A) → f a ≡ none) → (o >>= f) ≡ none
unfolding ◌>>=◌
bind-none none f h = refl
bind-none (some a) f h = h a

module _ (m : ℕ) where
  at_most-yes : (n : ℕ) → n ≤ m → at_most m n ≡ some n
  unfolding at_most ◌>>=◌ need
  at_most-yes n h = rw (le-leb n m h)

  at_most-no : (n : ℕ) → m < n → at_most m n ≡ none
  unfolding at_most ◌>>=◌ need
  at_most-no n h = rw (lt-leb n m h)

  -- a number that passes is the number itself, and at most m
  pub record Passed (n k : ℕ) : Type 0 where
    pub same : k ≡ n
    pub low : n ≤ m

  at_most-passed : (n k : ℕ) → at_most m n ≡ some k → Passed n k
  unfolding at_most ◌>>=◌ need
  at_most-passed n k e = step (leb n m) refl e
    where
      step : (t : Bool) → leb n m ≡ t → (need t >>= λ _. some n) ≡ some k → Passed n k
      step true q e = record { same = cc; low = leb-true n m q }
      step false q e = let z : ◌≡◌ {A = ℕ} 0 1 = cc in absurd (omega arith)

  pub up_to-low : (s : List ℕ) (k : ℕ) → up_to m s ≡ some k → k ≤ m
  unfolding up_to at_most ◌>>=◌
  up_to-low s k e = step (decimal s) e
    where
      step : (o : Option ℕ) → (o >>= at_most m) ≡ some k → k ≤ m
      step none e = let z : ◌≡◌ {A = ℕ} 0 1 = cc in absurd (omega arith)
      step (some n) e = let p = at_most-passed n k e in omega (arith, p.same, p.low)

  at_most-over : (n : ℕ) → at_most m n ≡ none → m < n
  unfolding at_most ◌>>=◌ need
  at_most-over n e = step (leb n m) refl e
    where
      step : (t : Bool) → leb n m ≡ t → (need t >>= λ _. some n) ≡ none → m < n
      step true q e = let z : ◌≡◌ {A = ℕ} 0 1 = cc in absurd (omega arith)
      step false q e = leb-false n m q

  -- once past m, a number stays past it
  past : (n : ℕ) (bs : List ℕ) → m < n → bounded m n bs ≡ none
  unfolding bounded digits ◌>>=◌
  past n [] h = at_most-no n h
  past n (b ∷ bs) h = step (digit b) (λ d. past (n * 10 + d) bs (omega arith))
    where
      step : (o : Option ℕ) → ((d : ℕ) → bounded m (n * 10 + d) bs ≡ none) → ((o >>= λ d. digits (n * 10 + d) bs) >>= at_most m) ≡ none
      step none r = refl
      step (some d) r = r d

  -- a byte that is a digit
  module _ (n b : ℕ) where
    pub extended-under : b < 48 → extended m n b ≡ none
    unfolding extended digit ◌>>=◌ need
    extended-under h = rw (lt-leb 48 b h)

    pub extended-above : 48 ≤ b → 57 < b → extended m n b ≡ none
    unfolding extended digit ◌>>=◌ need
    extended-above l h = rw (le-leb 48 b l, lt-leb b 57 h)

    extended-digit : 48 ≤ b → b ≤ 57 → extended m n b ≡ at_most m (n * 10 + (b - 48))
    unfolding extended digit ◌>>=◌ need
    extended-digit l h = rw (le-leb 48 b l, le-leb b 57 h)

    pub extended-past : 48 ≤ b → b ≤ 57 → m < n * 10 + (b - 48) → extended m n b ≡ none
    extended-past l h k = extended-digit l h ∙ at_most-no (n * 10 + (b - 48)) k

    pub extended-is : 48 ≤ b → b ≤ 57 → n * 10 + (b - 48) ≤ m → extended m n b ≡ some (n * 10 + (b - 48))
    extended-is l h k = extended-digit l h ∙ at_most-yes (n * 10 + (b - 48)) k

  -- digit by digit

  pub bounded-start : (s : List ℕ) → length s ≢ 0 → bounded m 0 s ≡ up_to m s
  unfolding up_to decimal bounded at_most
  bounded-start [] h = absurd (h refl)
  bounded-start (b ∷ bs) h = refl

  pub up_to-empty : (s : List ℕ) → length s ≡ 0 → up_to m s ≡ none
  unfolding up_to decimal ◌>>=◌
  up_to-empty [] h = refl
  up_to-empty (b ∷ bs) h = absurd (omega arith)

  pub bounded-end : (n : ℕ) (s : List ℕ) (i : ℕ) → length s ≤ i → n ≤ m → bounded m n (drop i s) ≡ some n
  unfolding bounded digits ◌>>=◌
  bounded-end n s i l h = rw (drop_of_length-le s l) (at_most-yes n h)

  pub bounded-more : (n b k : ℕ) (bs : List ℕ) → extended m n b ≡ some k → bounded m n (b ∷ bs) ≡ bounded m k bs
  unfolding bounded extended digits ◌>>=◌
  bounded-more n b k bs e = step (digit b) e
    where
      step : (o : Option ℕ) → (o >>= λ d. at_most m (n * 10 + d)) ≡ some k → ((o >>= λ d. digits (n * 10 + d) bs) >>= at_most m) ≡ (digits k bs >>= at_most m)
      step none e = let z : ◌≡◌ {A = ℕ} 0 1 = cc in absurd (omega arith)
      step (some d) e = rw (at_most-passed (n * 10 + d) k e).same

  pub bounded-low : (n b k : ℕ) → extended m n b ≡ some k → k ≤ m
  unfolding extended ◌>>=◌
  bounded-low n b k e = step (digit b) e
    where
      step : (o : Option ℕ) → (o >>= λ d. at_most m (n * 10 + d)) ≡ some k → k ≤ m
      step none e = let z : ◌≡◌ {A = ℕ} 0 1 = cc in absurd (omega arith)
      step (some d) e = let p = at_most-passed (n * 10 + d) k e in omega (arith, p.same, p.low)

  pub bounded-over : (n b : ℕ) (bs : List ℕ) → extended m n b ≡ none → bounded m n (b ∷ bs) ≡ none
  unfolding bounded extended digits ◌>>=◌
  bounded-over n b bs e = step (digit b) e
    where
      step : (o : Option ℕ) → (o >>= λ d. at_most m (n * 10 + d)) ≡ none → ((o >>= λ d. digits (n * 10 + d) bs) >>= at_most m) ≡ none
      step none e = refl
      step (some d) e = past (n * 10 + d) bs (at_most-over (n * 10 + d) e)

-- an int, by its first byte

negative : (b : ℕ) (bs : List ℕ) → b ≡ 45 → int (b ∷ bs) ≡ (up_to 2147483648 bs >>= λ n. some ((4294967296 - n) % 4294967296))
unfolding int
negative b bs e = rw (eq-eqb b 45 e, int)

pub int-minus : (s : List ℕ) → get_or s 0 0 ≡ 45 → int s ≡ (up_to 2147483648 (drop 1 s) >>= λ n. some ((4294967296 - n) % 4294967296))
int-minus [] e = absurd (omega arith)
int-minus (b ∷ bs) e = negative b bs e

pub int-plain : (s : List ℕ) → get_or s 0 0 ≢ 45 → int s ≡ up_to 2147483647 s
unfolding int up_to decimal ◌>>=◌
int-plain [] e = refl
int-plain (b ∷ bs) e = rw (ne_eqb b 45 e, int)
