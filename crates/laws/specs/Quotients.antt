-- Division of integers toward zero: what a quotient and its remainder are, and that no other quotient is so.
use Rattle.std.specs.Prelude.{◌≡◌, refl, ◌≢◌, ◌⊎◌, ℕ, zero, suc, ◌+◌, ◌-◌, ◌*◌, ◌/◌, ◌%◌, ◌<◌, ◌≤◌, ℤ, pos, negsuc, neg_ℤ, ◌+ℤ◌, ◌*ℤ◌, nat_abs}
use Rattle.std.proofs.Common.{sym, ap, ◌∙◌, inl, inr, mod-lt, div-add-mod', add-mul, arith, lt-ltb}
use Rattle.std.proofs.lemmas.Bool.{false≢true}
use Rattle.std.proofs.Math.Nat.{div-eq_of_lt-le}
use Rattle.std.proofs.Math.IntN.{neg_ℤ-+ℤ, neg_ℤ-neg_ℤ, pos-ne-negsuc}
use Rattle.std.specs.Int.Signed.{non_neg, quot_z, rem_z}

-- x is q times y and a remainder, which is below y in magnitude and has the sign of x or is 0
pub record Division (x y q : ℤ) : Type 0 where
  pub remainder : ℤ
  pub whole : x ≡ q *ℤ y +ℤ remainder
  pub small : nat_abs remainder < nat_abs y
  pub likewise : (remainder ≡ pos 0) ⊎ (non_neg remainder ≡ non_neg x)

negated-times : (q y : ℤ) → neg_ℤ q *ℤ y ≡ neg_ℤ (q *ℤ y)
negated-times (pos zero) (pos n) = let e : 0 * n ≡ 0 = omega arith in rw e refl
negated-times (pos zero) (negsuc n) = let e : 0 * suc n ≡ 0 = omega arith in rw e refl
negated-times (pos (suc m)) (pos n) = refl
negated-times (pos (suc m)) (negsuc n) = sym (neg_ℤ-neg_ℤ (pos (suc m * suc n)))
negated-times (negsuc m) (pos n) = sym (neg_ℤ-neg_ℤ (pos (suc m * n)))
negated-times (negsuc m) (negsuc n) = refl

minus-size : (n : ℕ) → nat_abs (neg_ℤ (pos n)) ≡ n
minus-size zero = refl
minus-size (suc n) = refl

minus-sign : (n a : ℕ) → (neg_ℤ (pos n) ≡ pos 0) ⊎ (non_neg (neg_ℤ (pos n)) ≡ non_neg (negsuc a))
minus-sign zero a = inl refl
minus-sign (suc n) a = inr refl

size-positive : (y : ℤ) → y ≢ pos 0 → 0 < nat_abs y
size-positive (pos zero) d = absurd (d refl)
size-positive (pos (suc n)) d = omega arith
size-positive (negsuc n) d = omega arith

-- what a quotient toward zero is
pub quotient-divides : (x y : ℤ) → y ≢ pos 0 → Division x y (quot_z x y)
quotient-divides x y d = record { remainder = rem_z x y; whole = whole x y; small = small x (size-positive y d); likewise = likewise x }
  where
    whole : (x y : ℤ) → x ≡ quot_z x y *ℤ y +ℤ rem_z x y
    whole (pos a) (pos b) = ap pos (sym (div-add-mod' a b))
    whole (pos a) (negsuc b) = rw (negated-times (pos (a / suc b)) (negsuc b), neg_ℤ-neg_ℤ (pos (a / suc b * suc b))) (ap pos (sym (div-add-mod' a (suc b))))
    whole (negsuc a) (pos b) = rw (negated-times (pos (suc a / b)) (pos b), ← neg_ℤ-+ℤ (pos (suc a / b * b)) (pos (suc a % b))) (ap (λ n. neg_ℤ (pos n)) (sym (div-add-mod' (suc a) b)))
    whole (negsuc a) (negsuc b) = rw (← neg_ℤ-+ℤ (pos (suc a / suc b * suc b)) (pos (suc a % suc b))) (ap (λ n. neg_ℤ (pos n)) (sym (div-add-mod' (suc a) (suc b))))

    small : (x : ℤ) → 0 < nat_abs y → nat_abs (rem_z x y) < nat_abs y
    small (pos a) h = mod-lt a h
    small (negsuc a) h = rw (minus-size (suc a % nat_abs y)) (mod-lt (suc a) h)

    likewise : (x : ℤ) → (rem_z x y ≡ pos 0) ⊎ (non_neg (rem_z x y) ≡ non_neg x)
    likewise (pos a) = inr refl
    likewise (negsuc a) = minus-sign (suc a % nat_abs y) a

-- and it is the only one that divides so

-- a multiple of n that isn't 0 is at least n
multiple : (m n : ℕ) → n ≤ suc m * n
multiple m n = omega (arith, add-mul m 1 n)

quotient_is : (a m n c : ℕ) → a ≡ m * n + c → c < n → a / n ≡ m
quotient_is a m n c e l = div-eq_of_lt-le {k = m} n (omega arith) (omega (arith, add-mul m 1 n))

negative : (c e a : ℕ) → c < e → pos a ≡ neg_ℤ (pos e) +ℤ pos c → ⊥
negative c zero a l q = omega arith
negative c (suc e) a l q = pos-ne-negsuc a (suc e - suc c) (q ∙ rw (lt-ltb c (suc e) l) refl)

of_positive : (a c : ℕ) (y q : ℤ) → pos a ≡ q *ℤ y +ℤ pos c → c < nat_abs y → q ≡ quot_z (pos a) y
of_positive a c (pos n) (pos m) e l = ap pos (sym (quotient_is a m n c (cc) l))
of_positive a c (pos n) (negsuc m) e l = absurd (negative c (suc m * n) a (omega (arith, multiple m n)) e)
of_positive a c (negsuc n) (pos zero) e l =
    let z : 0 * suc n ≡ 0 = omega arith in
    let s : pos a ≡ pos (0 + c) = rw z at e in
    let t : a ≡ 0 + c = cc in
    rw (quotient_is a 0 (suc n) c (omega arith) l) refl
of_positive a c (negsuc n) (pos (suc m)) e l = absurd (negative c (suc m * suc n) a (omega (arith, multiple m (suc n))) e)
of_positive a c (negsuc n) (negsuc m) e l = rw (quotient_is a (suc m) (suc n) c (cc) l) refl

of_negative : (a c : ℕ) (y q : ℤ) → negsuc a ≡ q *ℤ y +ℤ neg_ℤ (pos c) → c < nat_abs y → q ≡ quot_z (negsuc a) y
of_negative a c y q e l =
    let n : pos (suc a) ≡ neg_ℤ q *ℤ y +ℤ pos c = ap neg_ℤ e ∙ neg_ℤ-+ℤ (q *ℤ y) (neg_ℤ (pos c)) ∙ rw (negated-times q y, neg_ℤ-neg_ℤ (pos c)) refl in
    sym (neg_ℤ-neg_ℤ q) ∙ ap neg_ℤ (of_positive (suc a) c y (neg_ℤ q) n l) ∙ go y
  where
    go : (y : ℤ) → neg_ℤ (quot_z (pos (suc a)) y) ≡ quot_z (negsuc a) y
    go (pos n) = refl
    go (negsuc n) = neg_ℤ-neg_ℤ (pos (suc a / suc n))

pub quotient-only : (x y q : ℤ) → Division x y q → q ≡ quot_z x y
quotient-only x y q d = go x d.remainder d.whole d.small d.likewise
  where
    go : (x r : ℤ) → x ≡ q *ℤ y +ℤ r → nat_abs r < nat_abs y → (r ≡ pos 0) ⊎ (non_neg r ≡ non_neg x) → q ≡ quot_z x y
    go (pos a) (pos c) e l s = of_positive a c y q e l
    go (pos a) (negsuc c) e l (inl z) = absurd (pos-ne-negsuc 0 c (sym z))
    go (pos a) (negsuc c) e l (inr z) = absurd (false≢true z)
    go (negsuc a) (pos zero) e l s = of_negative a 0 y q e l
    go (negsuc a) (pos (suc c)) e l (inl z) = absurd (let n : suc c ≡ 0 = cc in omega arith)
    go (negsuc a) (pos (suc c)) e l (inr z) = absurd (false≢true (sym z))
    go (negsuc a) (negsuc c) e l s = of_negative a (suc c) y q e l
