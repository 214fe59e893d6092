-- The table of frames with a row of its own list: cells before it, the row, cells behind it. What is written to the row is written to the table.
use Rattle.std.specs.Prelude.{◌≡◌, ℕ, ◌+◌, ◌*◌, ◌<◌, ◌≤◌, length, get_or, take, drop}
use Rattle.std.proofs.Common.{sym, ◌∙◌, zero-add, suc-add, length-take-le, get_or-append-add}
use Rattle.std.proofs.Math.Path.{ap}
use mathlib.Core.List.{List, [], ◌∷◌, ◌++◌}
use native.Mathlib.Omega.{arith}
use Rattle.std.proofs.Math.ListN.{set, length-set, get_or-append}
use Rattle.std.proofs.lemmas.List.{set-append_left}
use Rattle.definition.specs.Tables.{kind_of, bits_of, put_value, put_operand, put_local}
use Rattle.definition.specs.Machine.{Value}
use Rattle.layout.specs.Cells.{moved}
use Rattle.execution.specs.RowCells.{IsRow}

set-append-add : (xs ys : List ℕ) (i a : ℕ) → set (xs ++ ys) (length xs + i) a ≡ xs ++ set ys i a
set-append-add [] ys i a = ap (λ (k : ℕ). set ys k a) (zero-add i)
set-append-add (x ∷ xs) ys i a = ap (λ (k : ℕ). set (x ∷ (xs ++ ys)) k a) (suc-add (length xs) i) ∙ ap (λ (l : List ℕ). x ∷ l) (set-append-add xs ys i a)

abbrev pub pasted : List ℕ → ℕ → List ℕ → List ℕ
pasted F b R = take b F ++ (R ++ drop 52 (drop b F))

module _ (F : List ℕ) (b : ℕ) (fits : b + 52 ≤ length F) where
  front : length (take b F) ≡ b
  front = length-take-le b F (omega arith)

  pub paste-set : (R : List ℕ) (i x : ℕ) → i < length R → pasted F b (set R i x) ≡ set (pasted F b R) (b + i) x
  paste-set R i x l =
      sym (ap (λ (n : ℕ). set (pasted F b R) (n + i) x) (sym front)
      ∙ (set-append-add (take b F) (R ++ drop 52 (drop b F)) i x
      ∙ ap (λ (l : List ℕ). take b F ++ l) (set-append_left R (drop 52 (drop b F)) i x l)))

  pub paste-row : (R : List ℕ) → length R ≡ 52 → IsRow (pasted F b R) b R
  paste-row R h i l =
      sym (ap (λ (n : ℕ). get_or (pasted F b R) (n + i) 0) (sym front)
      ∙ (get_or-append-add (take b F) (R ++ drop 52 (drop b F)) i 0 ∙ get_or-append R (drop 52 (drop b F)) 0 i (omega arith)))

  pub paste-value : (R : List ℕ) (i : ℕ) (v : Value) → i + 1 < length R → pasted F b (put_value R i v) ≡ put_value (pasted F b R) (b + i) v
  unfolding put_value
  paste-value R i v l =
      let e : b + (i + 1) ≡ b + i + 1 = omega arith in
      paste-set (set R i (kind_of v)) (i + 1) (bits_of v) (omega (arith, length-set R i (kind_of v)))
      ∙ (ap (λ (t : List ℕ). set t (b + (i + 1)) (bits_of v)) (paste-set R i (kind_of v) (omega arith))
      ∙ ap (λ (n : ℕ). set (set (pasted F b R) (b + i) (kind_of v)) n (bits_of v)) e)

  module _ (R : List ℕ) (long : length R ≡ 52) where
    pub paste-moved : (q e : ℕ) → pasted F b (moved R 0 q e) ≡ moved (pasted F b R) b q e
    paste-moved q e =
        paste-set (set R 2 q) 3 e (omega (arith, length-set R 2 q)) ∙ ap (λ (t : List ℕ). set t (b + 3) e) (paste-set R 2 q (omega arith))

    moved_length : (q e : ℕ) → length (moved R 0 q e) ≡ 52
    moved_length q e = length-set (set R 2 q) 3 e ∙ (length-set R 2 q ∙ long)

    pub paste-operand : (q e d : ℕ) (v : Value) → d < 16 → pasted F b (put_operand 0 (moved R 0 q e) d v) ≡ put_operand b (moved (pasted F b R) b q e) d v
    unfolding put_operand
    paste-operand q e d v l =
        let z : 0 + (20 + 2 * d) ≡ 20 + 2 * d = omega arith in
        paste-value (moved R 0 q e) (0 + (20 + 2 * d)) v (omega (arith, moved_length q e))
        ∙ (ap (λ (n : ℕ). put_value (pasted F b (moved R 0 q e)) (b + n) v) z ∙ ap (λ (t : List ℕ). put_value t (b + (20 + 2 * d)) v) (paste-moved q e))

    pub paste-local : (q e j : ℕ) (v : Value) → j < 8 → pasted F b (put_local 0 (moved R 0 q e) j v) ≡ put_local b (moved (pasted F b R) b q e) j v
    unfolding put_local
    paste-local q e j v l =
        let z : 0 + (4 + 2 * j) ≡ 4 + 2 * j = omega arith in
        paste-value (moved R 0 q e) (0 + (4 + 2 * j)) v (omega (arith, moved_length q e))
        ∙ (ap (λ (n : ℕ). put_value (pasted F b (moved R 0 q e)) (b + n) v) z ∙ ap (λ (t : List ℕ). put_value t (b + (4 + 2 * j)) v) (paste-moved q e))
