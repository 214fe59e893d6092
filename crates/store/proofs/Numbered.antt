-- Rows numbered from the last to the first: none, one more before those that are, and all.
use mathlib.Core.Path.{◌≡◌}
use mathlib.Core.List.{List}
use Prim.Native.Nat.{ℕ, suc, ◌+◌, ◌-◌, ◌<◌, ◌≤◌}
use native.Mathlib.Omega.{arith}
use lib.ListN.{set}
use Rattle.definition.specs.Lists.{rows, write_rows}
use Rattle.definition.specs.Tables.{put_number}
use Rattle.definition.specs.Calls.{numbers_from}

-- the rows from i on, of the n from `row` on that are numbered from k on
abbrev pub numbered_from : ℕ → ℕ → ℕ → ℕ → List ℕ → ℕ → List ℕ
numbered_from s row k n t i = write_rows (put_number s) (numbers_from (k + i) (n - i)) (row + i) t

module _ (s row k n : ℕ) (t : List ℕ) where
  pub number-none : t ≡ numbered_from s row k n t n
  unfolding write_rows rows
  number-none = let e : n - n ≡ 0 = omega arith in rw e

  pub number_more : (i : ℕ) (c : List ℕ) → 0 < i → i ≤ n → c ≡ numbered_from s row k n t i → set c (s + row + (i - 1)) (k + (i - 1)) ≡ numbered_from s row k n t (i - 1)
  unfolding write_rows rows put_number
  number_more i c h l e =
      let p : n - (i - 1) ≡ suc (n - i) = omega arith in
      let q : s + row + (i - 1) ≡ s + (row + (i - 1)) = omega arith in
      let a : k + i ≡ suc (k + (i - 1)) = omega arith in
      let b : row + i ≡ suc (row + (i - 1)) = omega arith in
      let f : c ≡ write_rows (put_number s) (numbers_from (suc (k + (i - 1))) (n - i)) (suc (row + (i - 1))) t = rw (← a, ← b) e in
      rw (p, q, f)

  pub number-all : numbered_from s row k n t 0 ≡ write_rows (put_number s) (numbers_from k n) row t
  number-all =
      let a : k + 0 ≡ k = omega arith in
      let b : n - 0 ≡ n = omega arith in
      let c : row + 0 ≡ row = omega arith in
      rw (a, b, c)
