-- Types that stand two bytes apart are the list's.
use mathlib.Core.Path.{◌≡◌, refl}
use mathlib.Core.Option.{some}
use mathlib.Core.List.{List}
use Prim.Native.Nat.{ℕ, zero, suc, ◌+◌, ◌≤◌}
use native.Mathlib.Omega.{arith}
use Rattle.definition.specs.declared.Arguments.TheVariants.{NoArguments, OneArgument, TwoArguments, ThreeArguments, FourArguments}
use Rattle.definition.specs.Classes.{arguments_of}
use Rattle.definition.specs.Instructions.{short_at, shorts_at}
use Rattle.cells.proofs.arguments.few_at.Goals as goal

module _ (bs : List ℕ) (p n a b c d : ℕ) (x : a ≡ short_at bs p) (y : b ≡ short_at bs (p + 2)) (z : c ≡ short_at bs (p + 4)) (t : d ≡ short_at bs (p + 6)) where
  third : p + 2 + 2 ≡ p + 4
  third = omega arith

  fourth : p + 2 + 2 + 2 ≡ p + 6
  fourth = omega arith

  four : n ≡ 4 → some (FourArguments a b c d) ≡ arguments_of (shorts_at bs p n)
  unfolding arguments_of shorts_at
  four e = rw (e, x, y, z, t, fourth, third) refl

three : (bs : List ℕ) (p n a b c : ℕ) → a ≡ short_at bs p → b ≡ short_at bs (p + 2) → c ≡ short_at bs (p + 4) → n ≡ 3 → some (ThreeArguments a b c) ≡ arguments_of (shorts_at bs p n)
unfolding arguments_of shorts_at
three bs p n a b c x y z e = let q : p + 2 + 2 ≡ p + 4 = omega arith in rw (e, x, y, z, q) refl

two : (bs : List ℕ) (p n a b : ℕ) → a ≡ short_at bs p → b ≡ short_at bs (p + 2) → n ≡ 2 → some (TwoArguments a b) ≡ arguments_of (shorts_at bs p n)
unfolding arguments_of shorts_at
two bs p n a b x y e = rw (e, x, y) refl

one : (bs : List ℕ) (p n a : ℕ) → a ≡ short_at bs p → n ≡ 1 → some (OneArgument a) ≡ arguments_of (shorts_at bs p n)
unfolding arguments_of shorts_at
one bs p n a x e = rw (e, x) refl

none : (bs : List ℕ) (p n : ℕ) → n ≡ 0 → some NoArguments ≡ arguments_of (shorts_at bs p n)
unfolding arguments_of shorts_at
none bs p n e = rw e refl

is-four : (n : ℕ) → n ≤ 4 → (n ≡ 0 → ⊥) → (n ≡ 1 → ⊥) → (n ≡ 2 → ⊥) → (n ≡ 3 → ⊥) → n ≡ 4
is-four zero l a b c d = absurd (a refl)
is-four (suc zero) l a b c d = absurd (b refl)
is-four (suc (suc zero)) l a b c d = absurd (c refl)
is-four (suc (suc (suc zero))) l a b c d = absurd (d refl)
is-four (suc (suc (suc (suc n)))) l a b c d = omega (arith, l)

pub returns-in-0 : goal.returns-in-0
returns-in-0 c = none _ _ _ c.in-0.is

pub returns-in-1 : goal.returns-in-1
returns-in-1 c = one _ _ _ _ c.short_at.ensures c.in-1.is

pub returns-in-2 : goal.returns-in-2
returns-in-2 c = two _ _ _ _ _ c.short_at-in-2.ensures c.short_at-in-2-2.ensures c.in-2.is

pub returns-in-3 : goal.returns-in-3
returns-in-3 c = three _ _ _ _ _ _ c.short_at-in-3.ensures c.short_at-in-3-2.ensures c.short_at-in-3-3.ensures c.in-3.is

pub returns-in_default : goal.returns-in_default
returns-in_default c =
    let m = c.in_default.in_default-own.rest in
    four _ _ _ _ _ _ _ c.short_at-in_default.ensures c.short_at-in_default-2.ensures c.short_at-in_default-3.ensures c.short_at-in_default-4.ensures
    (is-four _ c.requires.0 m.0.0.0.1 m.0.0.1 m.0.1 m.1)
