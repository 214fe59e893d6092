-- The first cells of a table written into a list from the last to the first: none, one more before those that are, and all.
use mathlib.Core.Path.{◌≡◌, ap, ◌∙◌}
use mathlib.Core.List.{List}
use Prim.Native.Nat.{ℕ, suc, ◌-◌, ◌≤◌}
use native.Mathlib.Omega.{arith}
use lib.ListN.{get_or, set}
use Rattle.definition.specs.Lists.{rows, write_rows}

-- those from i on, of n
unfoldable pub written_from : List ℕ → ℕ → List ℕ → ℕ → List ℕ
written_from best n t i = write_rows set (rows (λ j. get_or best j 0) (n - i) i) i t

module _ (best : List ℕ) (n : ℕ) (t : List ℕ) where
  pub write-none : t ≡ written_from best n t n
  unfolding write_rows rows written_from
  write-none = let e : n - n ≡ 0 = omega arith in rw e

  pub write-more : (i j : ℕ) (c : List ℕ) (v : ℕ) → suc j ≡ i → i ≤ n → v ≡ get_or best j 0 → c ≡ written_from best n t i → set c j v ≡ written_from best n t j
  unfolding write_rows rows written_from
  write-more i j c v h l q e =
      let p : n - j ≡ suc (n - i) = omega arith in
      let f : c ≡ write_rows set (rows (λ x. get_or best x 0) (n - i) (suc j)) (suc j) t = e ∙ ap (λ (x : ℕ). write_rows set (rows (λ y. get_or best y 0) (n - i) x) x t) (omega arith) in
      rw (p, q, f)

  pub write-all : written_from best n t 0 ≡ write_rows set (rows (λ j. get_or best j 0) n 0) 0 t
  unfolding written_from
  write-all = let b : n - 0 ≡ n = omega arith in rw b
