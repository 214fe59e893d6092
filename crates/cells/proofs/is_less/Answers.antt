-- The signed reading of 32 bits is the definition's, and so is the order of such readings.
use mathlib.Core.Path.{◌≡◌, refl, subst, ap, ◌∙◌}
use mathlib.Core.Bool.{Bool, true, false}
use Prim.Native.Nat.{ℕ, ◌-◌, ◌<◌, ◌≤◌}
use native.Mathlib.Omega.{arith}
use lib.IntN.{ℤ, pos, negsuc}
use lib.Dec.{ltb}
use lib.Signed.{lt_z}
use mir.Syntax.{w32}
use mir.Val.{to_z, of_z, Fits}
use borrow.Author.Tests.{ltb-true, ltb-false}
use Rattle.std.proofs.Math.Facts.{of_z-to_z, to_z_pos, to_z-neg}
use Rattle.definition.specs.Answers.{signed, less}
use Rattle.cells.proofs.is_less.Goals as goal

same-order : (a b : ℤ) → lt_z a b ≡ less a b
unfolding less
same-order (pos a) (pos b) = refl
same-order (pos a) (negsuc b) = refl
same-order (negsuc a) (pos b) = refl
same-order (negsuc a) (negsuc b) = refl

same-reading : (n : ℕ) → n < 4294967296 → to_z w32 n ≡ signed n
unfolding signed
same-reading n h = go (ltb n 2147483648) refl
  where
    go : (t : Bool) → ltb n 2147483648 ≡ t → to_z w32 n ≡ elim t [ true ↦ pos n | false ↦ negsuc (4294967296 - 1 - n) ]
    go true e = to_z_pos w32 (ltb-true _ _ e)
    go false e =
        let high : 2147483648 ≤ n = omega (arith, ltb-false _ _ e) in
        let below : 4294967295 - n < 2147483648 = omega arith in
        subst (λ m. to_z w32 m ≡ negsuc (4294967295 - n)) (omega arith) (to_z-neg w32 (4294967295 - n) below)

read : (n : ℕ) (z : ℤ) → Fits w32 n → z ≡ to_z w32 n → to_z w32 (of_z w32 z) ≡ signed n
read n z h e = ap (λ x. to_z w32 (of_z w32 x)) e ∙ ap (to_z w32) (of_z-to_z h) ∙ same-reading n h.fits

in-order : {x y a b : ℤ} → x ≡ a → y ≡ b → lt_z x y ≡ less a b
in-order {a = a} {b = b} e f = rw (e, f) (same-order a b)

pub returns : goal.returns
returns c =
    let one = read _ _ c.ranges.a c.cast_signed.ensures in
    let two = read _ _ c.ranges.b c.cast_signed-2.ensures in
    in-order one two
