-- Arguments read of bytes: n types from a place on, four at most. The reading is total: a longer list is read as none at all, and past the end every type is 0.
use Rattle.std.specs.Prelude.{◌≡◌, leb}
use Rattle.std.proofs.Math.Path.{refl, ap}
use Rattle.std.proofs.Math.Option.{Option, none, some}
use mathlib.Core.List.{List, [], ◌∷◌}
use Prim.Native.Nat.{ℕ, zero, suc, ◌+◌, ◌≤◌}
use native.Mathlib.Omega.{arith}
use Rattle.std.proofs.Math.ListN.{length, get_or-eq_default}
use Rattle.std.proofs.Common.{le-leb}
use Rattle.definition.specs.declared.Arguments.{Arguments}
use Rattle.definition.specs.declared.Arguments.TheVariants.{NoArguments}
use Rattle.definition.specs.Numbers.{argument_limit}
use Rattle.definition.specs.Classes.{types_of, arguments_of}
use Rattle.definition.specs.Instructions.{short_at, shorts_at}
use Rattle.definition.specs.Maybe.{◌>>=◌, need}

-- arguments that can't be read are none at all
unfoldable pub or_no_arguments : Option Arguments → Arguments
or_no_arguments none = NoArguments
or_no_arguments (some a) = a

unfoldable pub list_at : List ℕ → ℕ → ℕ → Arguments
list_at bs p n = or_no_arguments (need (leb n argument_limit) >>= λ _. arguments_of (shorts_at bs p n))

-- four types or fewer are a list of arguments
pub fits : (ts : List ℕ) → length ts ≤ argument_limit → (arguments_of ts ≡ some (or_no_arguments (arguments_of ts))) × (types_of (or_no_arguments (arguments_of ts)) ≡ ts)
unfolding arguments_of or_no_arguments
fits [] h = (refl, refl)
fits (a ∷ []) h = (refl, refl)
fits (a ∷ b ∷ []) h = (refl, refl)
fits (a ∷ b ∷ c ∷ []) h = (refl, refl)
fits (a ∷ b ∷ c ∷ d ∷ []) h = (refl, refl)
fits (a ∷ b ∷ c ∷ d ∷ e ∷ ts) h = absurd (omega (arith, h))

module _ (bs : List ℕ) where
  shorts-counted : (p n : ℕ) → length (shorts_at bs p n) ≡ n
  unfolding shorts_at
  shorts-counted p zero = refl
  shorts-counted p (suc n) = ap suc (shorts-counted (p + 2) n)

  pub list-few : (p n : ℕ) → n ≤ argument_limit → list_at bs p n ≡ or_no_arguments (arguments_of (shorts_at bs p n))
  unfolding list_at need ◌>>=◌
  list-few p n h = rw (le-leb n argument_limit h) refl

  pub list_read : (p n : ℕ) → n ≤ argument_limit → arguments_of (shorts_at bs p n) ≡ some (list_at bs p n)
  list_read p n h = rw (list-few p n h) (fits (shorts_at bs p n) (omega (arith, shorts-counted p n, h))).0

  -- past the end one place is as good as another
  short-past : (p : ℕ) → length bs ≤ p → short_at bs p ≡ 0
  unfolding short_at
  short-past p h =
      let more : length bs ≤ p + 1 = omega arith in
      rw (get_or-eq_default bs 0 h, get_or-eq_default bs 0 more) refl

  pub shorts-past : (p q n : ℕ) → length bs ≤ p → length bs ≤ q → shorts_at bs p n ≡ shorts_at bs q n
  unfolding shorts_at
  shorts-past p q zero h k = refl
  shorts-past p q (suc n) h k = rw (short-past p h, short-past q k) (ap (λ (ts : List ℕ). 0 ∷ ts) (shorts-past (p + 2) (q + 2) n (omega arith) (omega arith)))
