-- imul and idiv are the JVMS's: what an operator makes of two ints is what it makes of the two integers, wrapped; a quotient goes toward zero, and the least int divided by −1 is itself; 17 is for
-- a divisor 0 alone.
use Rattle.std.specs.Prelude.{◌≡◌, ◌≢◌, Bool, true, false, not, List, ◌∷◌, ℕ, zero, suc, ◌-◌, ◌/◌, ◌<◌, ◌≤◌, ℤ, pos, negsuc, neg_ℤ, ◌+ℤ◌, ◌-ℤ◌, ◌*ℤ◌, eqb, leb}
use Rattle.std.proofs.Math.Path.{refl, ap}
use Rattle.std.proofs.Common.{sym, ◌∙◌, div-le_self, arith, eqb-true, ne_eqb}
use Rattle.std.proofs.Math.Nat.{div-lt_self}
use Rattle.std.proofs.Math.IntN.{nat_abs}
use Rattle.std.specs.Int.Signed.{mag, quot_z}
use Rattle.definition.specs.declared.Refusal.{Refusal}
use Rattle.definition.specs.declared.Refusal.TheVariants.{Word}
use Rattle.definition.specs.declared.Operator.{Operator}
use Rattle.definition.specs.declared.Operator.TheVariants.{Add, Subtract, Multiply, Divide}
use Rattle.definition.specs.declared.Opcode.TheVariants.{OpArithmetic, OpUnknown}
use Rattle.definition.specs.declared.Instruction.TheVariants.{Arithmetic}
use Rattle.definition.specs.Numbers.{version_two, int_range, sign_bit}
use Rattle.definition.specs.Answers.{signed, int_bits, refused, ok, ◌>>=◌, need, take?}
use Rattle.definition.specs.Classes.{Class}
use Rattle.definition.specs.Constraints.{World}
use Rattle.definition.specs.Instructions.{pick, opcode_of, Decoded}
use Rattle.definition.specs.Verifier.{pop}
use Rattle.definition.specs.Machine.{Value, int_value, Objects, Frame, pop!, int!, compute, on, execute}
use Rattle.laws.specs.Ints.{Sign, low, high, sign, signed_low, signed_high, EqualModulo, bits_below, int-modulo, signed-bits, bits-signed, zero_bits, sum-bits, difference-bits}
use Rattle.laws.specs.Quotients.{Division, quotient-divides, quotient-only}

-- each operator on integers
unfoldable pub operation : Operator → ℤ → ℤ → ℤ
operation Add x y = x +ℤ y
operation Subtract x y = x -ℤ y
operation Multiply x y = x *ℤ y
operation Divide x y = quot_z x y

module _ (a b : ℕ) (h : a < int_range) (k : b < int_range) where
  -- of any two ints an operator makes what it makes of the integers, wrapped, and never refuses, unless it divides by 0
  pub computes : (o : Operator) → (o ≡ Divide → b ≢ 0) → compute o a b ≡ ok (int_bits (operation o (signed a) (signed b)))
  unfolding compute operation
  computes Add d = ap ok (sym (sum-bits a b h k))
  computes Subtract d = ap ok (sym (difference-bits a b h k))
  computes Multiply d = refl
  computes Divide d = rw (ne_eqb b 0 (d refl)) (unfold need ◌>>=◌ in refl)

  -- so that the result, as an int, equals modulo 2^32 what it makes of the integers
  pub computes-modulo : (o : Operator) → (o ≡ Divide → b ≢ 0) → (n : ℕ) × (compute o a b ≡ ok n) × (n < int_range) × EqualModulo (operation o (signed a) (signed b)) (signed n)
  computes-modulo o d = let z = operation o (signed a) (signed b) in (int_bits z, computes o d, bits_below z, int-modulo z)

-- 17 exactly if it divides by 0
pub zero-refused : (a : ℕ) → compute Divide a 0 ≡ refused (Word 17)
unfolding compute need ◌>>=◌
zero-refused a = refl

pub refused-zero : (o : Operator) (a b : ℕ) (w : Refusal) → compute o a b ≡ refused w → (o ≡ Divide) × (b ≡ 0) × (w ≡ Word 17)
unfolding compute need ◌>>=◌
refused-zero Add a b w e = absurd (let z : ◌≡◌ {A = ℕ} 0 1 = cc in omega arith)
refused-zero Subtract a b w e = absurd (let z : ◌≡◌ {A = ℕ} 0 1 = cc in omega arith)
refused-zero Multiply a b w e = absurd (let z : ◌≡◌ {A = ℕ} 0 1 = cc in omega arith)
refused-zero Divide a b w e = go (eqb b 0) refl e
  where
    go : (t : Bool) → eqb b 0 ≡ t → (need (not t) (Word 17) >>= λ _. ok (int_bits (quot_z (signed a) (signed b)))) ≡ refused w → (Divide ≡ Divide) × (b ≡ 0) × (w ≡ Word 17)
    go true z q = (refl, eqb-true b 0 z, cc)
    go false z q = absurd (let z : ◌≡◌ {A = ℕ} 0 1 = cc in omega arith)

-- idiv

minus-fits : (n : ℕ) → n ≤ sign_bit → mag (neg_ℤ (pos n)) < sign_bit
minus-fits zero h = omega arith
minus-fits (suc n) h = h

module _ (a b : ℕ) (h : a < int_range) (k : b < int_range) where
  -- the quotient of two ints is an int, unless it is that of the least by −1
  quotient_fits : ¬ ((a ≡ sign_bit) × (b ≡ int_range - 1)) → mag (quot_z (signed a) (signed b)) < sign_bit
  quotient_fits other = go (sign a) (sign b)
    where
      by : sign_bit ≤ a → (c : ℕ) → suc c ≡ int_range - a → (d : ℕ) → suc d ≡ int_range - b → suc c / suc d < sign_bit
      by l c e zero f = omega (arith, div-le_self (suc c) (suc zero), least)
        where
          least : a ≢ sign_bit
          least q = other (q, omega arith)
      by l c e (suc d) f = omega (arith, div-lt_self {n = suc c} {k = suc (suc d)} (omega arith) (omega arith))

      go : Sign a → Sign b → mag (quot_z (signed a) (signed b)) < sign_bit
      go (low l) (low m) = rw (signed_low a l, signed_low b m) (omega (arith, div-le_self a b))
      go (low l) (high m) = rw (signed_low a l, signed_high b m) (minus-fits (a / suc (int_range - 1 - b)) (omega (arith, div-le_self a (suc (int_range - 1 - b)))))
      go (high l) (low m) = rw (signed_high a l, signed_low b m) (minus-fits (suc (int_range - 1 - a) / b) (omega (arith, div-le_self (suc (int_range - 1 - a)) b)))
      go (high l) (high m) = rw (signed_high a l, signed_high b m) (by l (int_range - 1 - a) (omega arith) (int_range - 1 - b) (omega arith))

  -- the lower operand is the result times the upper operand and a remainder
  pub idiv-divides : b ≢ 0 → ¬ ((a ≡ sign_bit) × (b ≡ int_range - 1)) → (n : ℕ) × (compute Divide a b ≡ ok n) × Division (signed a) (signed b) (signed n)
  idiv-divides z other = (
    int_bits (quot_z (signed a) (signed b)),
    computes a b h k Divide (λ _. z) ∙ (unfold operation in refl),
    rw (bits-signed (quot_z (signed a) (signed b)) (quotient_fits other)) (quotient-divides (signed a) (signed b) (λ e. z (zero_bits b e))),
  )

  -- and the int that divides so is the result
  pub idiv-only : (n : ℕ) → n < int_range → Division (signed a) (signed b) (signed n) → compute Divide a b ≡ ok n
  idiv-only n l d =
      computes a b h k Divide (λ _. nonzero) ∙ (unfold operation in ap (λ (z : ℤ). ok (int_bits z)) (sym (quotient-only (signed a) (signed b) (signed n) d)) ∙ ap ok (signed-bits n l))
    where
      nonzero : b ≢ 0
      nonzero e = let s : nat_abs (signed b) ≡ 0 = rw (e, signed_low 0 (omega arith)) refl in omega (arith, d.small)

-- the least int by −1 is itself
pub idiv-least : (signed sign_bit ≡ negsuc 2147483647) × (signed (int_range - 1) ≡ negsuc 0) × (compute Divide sign_bit (int_range - 1) ≡ ok sign_bit)
unfolding signed compute need ◌>>=◌ int_bits
idiv-least = (refl, refl, refl)

-- Both are read in files from version 2 on, and compute with the two operands on top, the lower one first

pub imul-read : (version : ℕ) → opcode_of version 0x68 ≡ pick (leb version_two version) (OpArithmetic Multiply) OpUnknown
unfolding opcode_of pick
imul-read version = refl

pub idiv-read : (version : ℕ) → opcode_of version 0x6C ≡ pick (leb version_two version) (OpArithmetic Divide) OpUnknown
unfolding opcode_of pick
idiv-read version = refl

pub computes-on : (task : ℕ) (w : World) (os : Objects) (f : Frame) (fs : List Frame) (k : Class) (i : Decoded) (o : Operator) (a b : ℕ) (vs : List Value) → f.operands ≡ int_value b ∷ int_value a ∷ vs
    → execute task w os f fs k i (Arithmetic o) ≡ (compute o a b >>= λ n. on task w os f fs k i (int_value n ∷ vs) f.locals)
unfolding execute pop! pop take? int! ◌>>=◌
computes-on task w os f fs k i o a b vs e = rw e refl
