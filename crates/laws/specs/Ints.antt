-- Ints: 32 bits and the integers that they stand for. An integer equals its bits modulo 2^32, and they are the only ones; bits and ints are one to one; sums, differences, products and quotients
-- of ints by their bits.
use Rattle.std.specs.Prelude.{◌≡◌, Bool, true, false, cond, ℤ, negsuc, neg_ℤ, ◌+ℤ◌, ◌-ℤ◌, ◌*ℤ◌, ltb}
use Rattle.std.proofs.Math.Path.{refl}
use Rattle.std.proofs.Common.{sym, ap, ◌∙◌, mod-lt, mul-add, add-mul, lt-ltb, le-ltb, ltb-true, ltb-false}
use Prim.Native.Nat.{ℕ, zero, suc, ◌+◌, ◌-◌, ◌*◌, ◌/◌, ◌%◌, ◌<◌, ◌≤◌}
use Rattle.std.proofs.Math.Nat.{div-le_self, mul_comm}
use native.Mathlib.Omega.{arith}
use Rattle.std.proofs.Math.IntN.{pos, suc_ℤ, sub_ℕ, +ℤ_assoc, +ℤ_comm, *ℤ_comm, suc_ℤ-*ℤ, pos-ne-negsuc}
use Rattle.std.specs.Int.Signed.{mag, quot_z}
use Rattle.definition.specs.Numbers.{int_range, sign_bit}
use Rattle.definition.specs.Answers.{signed, int_bits}

pub signed_low : (n : ℕ) → n < sign_bit → signed n ≡ pos n
unfolding signed
signed_low n h = rw (lt-ltb n sign_bit h, signed)

pub signed_high : (n : ℕ) → sign_bit ≤ n → signed n ≡ negsuc (int_range - 1 - n)
unfolding signed
signed_high n h = rw (le-ltb n sign_bit h, signed)

-- an int, below the sign bit or from there on
pub data Sign (n : ℕ) : Type 0 where
  low : n < sign_bit → Sign n
  high : sign_bit ≤ n → Sign n

pub sign : (n : ℕ) → Sign n
sign n = go (ltb n sign_bit) refl
  where
    go : (b : Bool) → ltb n sign_bit ≡ b → Sign n
    go true e = low (ltb-true n sign_bit e)
    go false e = high (ltb-false n sign_bit e)

-- x and y differ by a multiple of 2^32
abbrev pub EqualModulo : ℤ → ℤ → Type 0
EqualModulo x y = (k : ℤ) × (x ≡ y +ℤ pos int_range *ℤ k)

pub bits_below : (z : ℤ) → int_bits z < int_range
unfolding int_bits
bits_below (pos n) = mod-lt n (omega arith)
bits_below (negsuc n) = omega arith

-- an integer equals its bits modulo 2^32
pub bits-modulo : (z : ℤ) → EqualModulo z (pos (int_bits z))
unfolding int_bits
bits-modulo (pos n) = (pos (n / int_range), ap pos (omega arith))
bits-modulo (negsuc n) =
    let e : int_range * suc (n / int_range) ≡ suc (int_range * (n / int_range) + (int_range - 1)) = omega arith in
    let h : int_range - 1 - n % int_range < suc (int_range * (n / int_range) + (int_range - 1)) = omega arith in
    (negsuc (n / int_range), rw (e, lt-ltb _ _ h) (ap negsuc (omega arith)))

-- and its bits are the only number below 2^32 that it equals so
pub bits-only : (z : ℤ) (n : ℕ) → n < int_range → EqualModulo z (pos n) → int_bits z ≡ n
unfolding int_bits
bits-only z n h (pos k, e) = ap int_bits e ∙ omega arith
bits-only z n h (negsuc k, e) =
    let m : int_range * suc k ≡ suc (int_range * k + (int_range - 1)) = omega arith in
    let l : n < suc (int_range * k + (int_range - 1)) = omega arith in
    let q : z ≡ negsuc (int_range * k + (int_range - 1) - n) = e ∙ rw (m, lt-ltb _ _ l) (ap negsuc (omega arith)) in
    ap int_bits q ∙ omega arith

-- it equals the int that its bits stand for likewise
pub int-modulo : (z : ℤ) → EqualModulo z (signed (int_bits z))
int-modulo z = go (int_bits z) (bits_below z) (bits-modulo z) (sign (int_bits z))
  where
    go : (n : ℕ) → n < int_range → EqualModulo z (pos n) → Sign n → EqualModulo z (signed n)
    go n h m (low l) = rw (signed_low n l) m
    go n h m (high l) = (
      suc_ℤ m.0,
      rw (signed_high n l, *ℤ_comm (pos int_range) (suc_ℤ m.0), suc_ℤ-*ℤ m.0 (pos int_range), *ℤ_comm m.0 (pos int_range), +ℤ_comm (pos int_range *ℤ m.0) (pos int_range))
          (m.1 ∙ ap (λ (x : ℤ). x +ℤ pos int_range *ℤ m.0) back ∙ +ℤ_assoc (negsuc (int_range - 1 - n)) (pos int_range) (pos int_range *ℤ m.0)),
    )
      where
        back : pos n ≡ negsuc (int_range - 1 - n) +ℤ pos int_range
        back = rw (le-ltb int_range (suc (int_range - 1 - n)) (omega arith)) (ap pos (omega arith))

-- the bits of an int are those that it was read from
pub signed-bits : (n : ℕ) → n < int_range → int_bits (signed n) ≡ n
unfolding int_bits
signed-bits n h = go (sign n)
  where
    go : Sign n → int_bits (signed n) ≡ n
    go (low l) = rw (signed_low n l) (omega arith)
    go (high l) = rw (signed_high n l) (omega arith)

-- and an integer from −2^31 below 2^31 is read back from its bits
pub bits-signed : (z : ℤ) → mag z < sign_bit → signed (int_bits z) ≡ z
unfolding int_bits
bits-signed (pos n) h = let e : n % int_range ≡ n = omega arith in rw e (signed_low n h)
bits-signed (negsuc n) h =
    let e : n % int_range ≡ n = omega arith in
    rw e (signed_high (int_range - 1 - n) (omega arith) ∙ ap negsuc (omega arith))

-- only 0 is read from 0
pub zero_bits : (b : ℕ) → signed b ≡ pos 0 → b ≡ 0
zero_bits b e = go (sign b)
  where
    go : Sign b → b ≡ 0
    go (low l) = let q : pos b ≡ pos 0 = sym (signed_low b l) ∙ e in cc
    go (high l) = absurd (pos-ne-negsuc 0 (int_range - 1 - b) (sym e ∙ signed_high b l))

-- By their bits

-- the negative of a natural number
neg_bits : (m : ℕ) → int_bits (neg_ℤ (pos m)) ≡ (int_range - m % int_range) % int_range
unfolding int_bits
neg_bits zero = refl
neg_bits (suc k) = omega arith

-- the difference of two natural numbers, by its bits
natural-bits : (m n : ℕ) → n ≤ int_range → int_bits (sub_ℕ m n) ≡ (m + int_range - n) % int_range
unfolding int_bits
natural-bits m n l = by (ltb m n) refl
  where
    by : (t : Bool) → ltb m n ≡ t → int_bits (cond t (negsuc (n - suc m)) (pos (m - n))) ≡ (m + int_range - n) % int_range
    by true e = let u : m < n = ltb-true m n e in omega arith
    by false e = let u : n ≤ m = ltb-false m n e in omega arith

-- a product with the difference from 2^32, and of two of them
one-complement : (a b c : ℕ) → c + b ≡ int_range → (int_range - (a * c) % int_range) % int_range ≡ (a * b) % int_range
one-complement a b c e = omega (arith, ap (λ n. a * n) e, mul-add a c b)

complements : (a b c d : ℕ) → c + a ≡ int_range → d + b ≡ int_range → (c * d) % int_range ≡ (a * b) % int_range
complements a b c d e f = omega (arith, ap (λ n. n * d) e, add-mul c a d, ap (λ n. a * n) f, mul-add a d b)

module _ (a b : ℕ) (h : a < int_range) (k : b < int_range) where
  -- the sum, the difference and the product of ints are, by their bits, those of the bits
  pub sum-bits : int_bits (signed a +ℤ signed b) ≡ (a + b) % int_range
  unfolding int_bits
  sum-bits = go (sign a) (sign b)
    where
      go : Sign a → Sign b → int_bits (signed a +ℤ signed b) ≡ (a + b) % int_range
      go (low l) (low m) = rw (signed_low a l, signed_low b m) refl
      go (low l) (high m) = rw (signed_low a l, signed_high b m) (natural-bits a (suc (int_range - 1 - b)) (omega arith) ∙ omega arith)
      go (high l) (low m) = rw (signed_high a l, signed_low b m) (natural-bits b (suc (int_range - 1 - a)) (omega arith) ∙ omega arith)
      go (high l) (high m) = rw (signed_high a l, signed_high b m) (omega arith)

  pub difference-bits : int_bits (signed a -ℤ signed b) ≡ (a + int_range - b) % int_range
  unfolding int_bits
  difference-bits = go (sign a) (sign b)
    where
      less : (c d : ℕ) → c < int_range → d < int_range → int_bits (pos c -ℤ pos d) ≡ (c + int_range - d) % int_range
      less c zero x y = omega arith
      less c (suc d) x y = natural-bits c (suc d) (omega arith)

      fewer : (c d : ℕ) → c < int_range → d < int_range → int_bits (negsuc c -ℤ pos d) ≡ (int_range - 1 - c + int_range - d) % int_range
      fewer c zero x y = natural-bits 0 (suc c) (omega arith) ∙ omega arith
      fewer c (suc d) x y = omega arith

      go : Sign a → Sign b → int_bits (signed a -ℤ signed b) ≡ (a + int_range - b) % int_range
      go (low l) (low m) = rw (signed_low a l, signed_low b m) (less a b h k)
      go (low l) (high m) = rw (signed_low a l, signed_high b m) (omega arith)
      go (high l) (low m) = rw (signed_high a l, signed_low b m) (fewer (int_range - 1 - a) b (omega arith) k ∙ omega arith)
      go (high l) (high m) = rw (signed_high a l, signed_high b m) (natural-bits (suc (int_range - 1 - b)) (suc (int_range - 1 - a)) (omega arith) ∙ omega arith)

  pub product-bits : int_bits (signed a *ℤ signed b) ≡ (a * b) % int_range
  unfolding int_bits
  product-bits = go (sign a) (sign b)
    where
      go : Sign a → Sign b → int_bits (signed a *ℤ signed b) ≡ (a * b) % int_range
      go (low l) (low m) = rw (signed_low a l, signed_low b m) refl
      go (low l) (high m) = rw (signed_low a l, signed_high b m) (neg_bits (a * suc (int_range - 1 - b)) ∙ one-complement a b (suc (int_range - 1 - b)) (omega arith))
      go (high l) (low m) =
          rw (signed_high a l, signed_low b m) (neg_bits (suc (int_range - 1 - a) * b) ∙ rw (mul_comm (suc (int_range - 1 - a)) b, mul_comm a b) (one-complement b a (suc (int_range - 1 - a)) (omega arith)))
      go (high l) (high m) = rw (signed_high a l, signed_high b m) (complements a b (suc (int_range - 1 - a)) (suc (int_range - 1 - b)) (omega arith) (omega arith))

  -- the quotient is, by its bits, that of the magnitudes, negative where the signs differ
  pub quotient-low-low : a < sign_bit → b < sign_bit → int_bits (quot_z (signed a) (signed b)) ≡ a / b
  unfolding int_bits
  quotient-low-low l m = rw (signed_low a l, signed_low b m) (omega (arith, div-le_self a b))

  pub quotient-low-high : a < sign_bit → sign_bit ≤ b → int_bits (quot_z (signed a) (signed b)) ≡ (int_range - a / (int_range - b)) % int_range
  quotient-low-high l m = rw (signed_low a l, signed_high b m) (neg_bits (a / suc (int_range - 1 - b)) ∙ (let e : suc (int_range - 1 - b) ≡ int_range - b = omega arith in rw e (omega (arith, div-le_self a (int_range - b)))))

  pub quotient-high-low : sign_bit ≤ a → b < sign_bit → int_bits (quot_z (signed a) (signed b)) ≡ (int_range - (int_range - a) / b) % int_range
  quotient-high-low l m = rw (signed_high a l, signed_low b m) (neg_bits (suc (int_range - 1 - a) / b) ∙ (let e : suc (int_range - 1 - a) ≡ int_range - a = omega arith in rw e (omega (arith, div-le_self (int_range - a) b))))

  pub quotient-high-high : sign_bit ≤ a → sign_bit ≤ b → int_bits (quot_z (signed a) (signed b)) ≡ (int_range - a) / (int_range - b)
  unfolding int_bits
  quotient-high-high l m = rw (signed_high a l, signed_high b m)
      (let e : suc (int_range - 1 - a) ≡ int_range - a = omega arith in let f : suc (int_range - 1 - b) ≡ int_range - b = omega arith in rw (e, f) (omega (arith, div-le_self (int_range - a) (int_range - b))))
