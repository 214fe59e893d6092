-- Rows written downward, from the last to the first: what a loop over a new object's fields has written.
use mathlib.Core.Path.{◌≡◌, ap, ◌∙◌}
use mathlib.Core.List.{List, ◌∷◌}
use Prim.Native.Nat.{ℕ, suc, ◌-◌, ◌+◌, ◌<◌, ◌≤◌}
use native.Mathlib.Omega.{arith}
use Rattle.definition.specs.Lists.{rows, write_rows}
use Rattle.layout.specs.Places.{rows_step, rows_none}

module _ {A : Type 0} (p : List ℕ → ℕ → A → List ℕ) (g : ℕ → A) (n : ℕ) where
  -- none of n rows, before the first is written
  pub write_rows-none : (t : List ℕ) → t ≡ write_rows p (rows g (n - n) n) n t
  unfolding write_rows
  write_rows-none t = rw (rows_none g n n (omega arith))

  -- the rows from place i on, and the one below them
  pub write_rows-down : (i : ℕ) (t : List ℕ) → 0 < i → i ≤ n → write_rows p (rows g (n - (i - 1)) (i - 1)) (i - 1) t ≡ p (write_rows p (rows g (n - i) i) i t) (i - 1) (g (i - 1))
  unfolding write_rows
  write_rows-down i t l h =
      let e : i - 1 + 1 ≡ i = omega arith in
      let s : i - 1 < n = omega arith in
      ap (λ z. write_rows p z (i - 1) t) (rows_step g n (i - 1) s) ∙ below e
    where
      below : i - 1 + 1 ≡ i → write_rows p (g (i - 1) ∷ rows g (n - (i - 1 + 1)) (i - 1 + 1)) (i - 1) t ≡ p (write_rows p (rows g (n - i) i) i t) (i - 1) (g (i - 1))
      below e = let f : suc (i - 1) ≡ i = omega arith in rw (e, f)
