-- Numbers in turn: the next number, of n, is looked for in the rows from t on of one table and from s on of the other.
use mathlib.Core.Path.{◌≡◌, refl, sym, ap, ◌∙◌}
use mathlib.Core.Bool.{Bool, true, false, false≢true}
use Rattle.std.specs.Prelude.{Option, Some, None}
use Rattle.std.specs.Option.{option_eq}
use mathlib.Core.List.{List, [], ◌∷◌}
use Prim.Native.Nat.{ℕ, suc, ◌+◌, ◌-◌, ◌≤◌, ◌<◌}
use native.Mathlib.Omega.{arith}
use native.Mathlib.Numerals.{add-one}
use lib.ListN.{get_or}
use lib.Dec.{eqb, ltb}
use borrow.Author.Tests.{ltb-true, ltb-false}
use Rattle.definition.specs.Numbers.{count_ties, count_subtypes, tie_numbers_cell, subtype_numbers_cell}
use Rattle.definition.specs.Lists.{rows}
use Rattle.definition.specs.Tables.{number_at}
use Rattle.definition.specs.Broken.{next, others, in_turn, numbered}
use Rattle.layout.specs.Places.{rows-length, rows_none, rows_step, rows_start}
use Rattle.rows.specs.Numbers.{standing, numbers_fit}

-- a row that has it is one of them
pub next-there : (k : ℕ) (g : ℕ → ℕ) (n i : ℕ) → next k (rows g (n - i) i) ≡ true → i < n
unfolding next
next-there k g n i h = go (ltb i n) refl
  where
    go : (t : Bool) → ltb i n ≡ t → i < n
    go true e = ltb-true i n e
    go false e = absurd (false≢true (sym (ap (next k) (rows_none g n i (ltb-false i n e))) ∙ h))

-- what stands first of the rows from i on

pub standing-there : (g : ℕ → ℕ) (n i : ℕ) → i < n → standing (rows g (n - i) i) ≡ Some (g i)
unfolding standing
standing-there g n i l = rw (rows_step g n i l)

pub standing-past : (g : ℕ → ℕ) (n i : ℕ) → n ≤ i → standing (rows g (n - i) i) ≡ None
unfolding standing
standing-past g n i l = rw (rows_none g n i l)

-- number k is the next exactly if it stands first
pub next-is : (k : ℕ) (xs : List ℕ) (x : Option ℕ) (b : Bool) → x ≡ standing xs → option_eq eqb x (Some k) ≡ b → next k xs ≡ b
unfolding next standing
next-is k [] x b e h = ap (λ (y : Option ℕ). option_eq eqb y (Some k)) (sym e) ∙ h
next-is k (z ∷ zs) x b e h = ap (λ (y : Option ℕ). option_eq eqb y (Some k)) (sym e) ∙ h

others-rows : (g : ℕ → ℕ) (n i : ℕ) → i < n → others (rows g (n - i) i) ≡ rows g (n - (i + 1)) (i + 1)
unfolding others
others-rows g n i l = rw (rows_step g n i l)

module _ (f g : ℕ → ℕ) (a b n k t s : ℕ) (l : k < n) where
  abbrev ts : List ℕ
  ts = rows f (a - t) t

  abbrev ss : List ℕ
  ss = rows g (b - s) s

  turn_step : in_turn (n - k) k ts ss ≡ in_turn (suc (n - (k + 1))) k ts ss
  turn_step = let e : n - k ≡ suc (n - (k + 1)) = omega arith in ap (λ (m : ℕ). in_turn m k ts ss) e

  pub turn-tie : next k ts ≡ true → in_turn (n - k) k ts ss ≡ in_turn (n - (k + 1)) (k + 1) (rows f (a - (t + 1)) (t + 1)) ss
  unfolding in_turn
  turn-tie h = turn_step ∙ rw (h, in_turn, others-rows f a t (next-there k f a t h), add-one k)

  pub turn-subtype : next k ts ≡ false → next k ss ≡ true → in_turn (n - k) k ts ss ≡ in_turn (n - (k + 1)) (k + 1) ts (rows g (b - (s + 1)) (s + 1))
  unfolding in_turn
  turn-subtype e h = turn_step ∙ rw (e, h, in_turn, others-rows g b s (next-there k g b s h), add-one k)

  pub turn-neither : next k ts ≡ false → next k ss ≡ false → in_turn (n - k) k ts ss ≡ false
  unfolding in_turn
  turn-neither e h = turn_step ∙ rw (e, h, in_turn)

pub turn-end : (n k : ℕ) (ts ss : List ℕ) → n ≤ k → in_turn (n - k) k ts ss ≡ true
unfolding in_turn
turn-end n k ts ss l = let e : n - k ≡ 0 = omega arith in rw e

-- before the first
pub turn-start : (c : List ℕ) (a b n : ℕ) → a ≡ get_or c count_ties 0 → b ≡ get_or c count_subtypes 0 → n ≡ a + b
    → in_turn (n - 0) 0 (rows (number_at tie_numbers_cell c) (a - 0) 0) (rows (number_at subtype_numbers_cell c) (b - 0) 0) ≡ numbers_fit c
unfolding numbers_fit numbered
turn-start c a b n e f q =
    let z : n - 0 ≡ get_or c count_ties 0 + get_or c count_subtypes 0 = omega arith in
    rw (z, rows_start (number_at tie_numbers_cell c) a, rows_start (number_at subtype_numbers_cell c) b, e, f, rows-length (number_at tie_numbers_cell c) (get_or c count_ties 0) 0, rows-length (number_at subtype_numbers_cell c) (get_or c count_subtypes 0) 0)
