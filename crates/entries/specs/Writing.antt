-- Cells written one after another from a place on, as far as the table has room: rows of one cell each.
use Rattle.std.specs.Prelude.{◌≡◌, Bool, true, false, leb, ℕ, zero, suc, ◌+◌, ◌-◌, ◌<◌, ◌≤◌, List, [], ◌∷◌, ◌++◌, length, take, drop, set}
use Rattle.std.proofs.Common.{sym, refl, ap, ◌∙◌, append_assoc, append-nil, arith, length-take-le, drop_of_length-le, leb-true, leb-false}
use lib.Seq.{set_out, take_all}
use Rattle.definition.specs.Lists.{write_rows}
use Rattle.layout.specs.Cells.{cells-block}

unfoldable pub written : {A : Type 0} → List A → ℕ → List A → List A
written xs from t = take from t ++ (take (length t - from) xs ++ drop (from + length xs) t)

-- cells past the end are not written
written-past : (xs : List ℕ) (from : ℕ) (t : List ℕ) → length t ≤ from → write_rows set xs from t ≡ t
unfolding write_rows
written-past [] from t h = refl
written-past (x ∷ xs) from t h = rw (written-past xs (suc from) t (omega arith)) (set_out t from x h)

-- the first r of the cells are all that there is room for
written_all : (xs : List ℕ) (from r : ℕ) (t : List ℕ) → (r < length xs → length t ≤ from + r) → write_rows set (take r xs) from t ≡ write_rows set xs from t
unfolding write_rows
written_all [] from zero t h = refl
written_all [] from (suc r) t h = refl
written_all (x ∷ xs) from zero t h = sym (written-past (x ∷ xs) from t (let l : length t ≤ from + 0 = h (omega arith) in omega arith))
written_all (x ∷ xs) from (suc r) t h =
    ap (λ (s : List ℕ). set s from x) (written_all xs (suc from) r t (λ l. let k : length t ≤ from + suc r = h (omega arith) in omega arith))

-- so they are rows of one cell each
pub written-rows : (xs : List ℕ) (from : ℕ) (t : List ℕ) → written xs from t ≡ write_rows set xs from t
unfolding written
written-rows xs from t = go (leb (length t) from) refl (leb (from + length xs) (length t)) refl
  where
    r : ℕ
    r = length t - from

    here : List ℕ → Type 0
    here d = take from t ++ (take r xs ++ d) ≡ write_rows set xs from t

    go : (b : Bool) → leb (length t) from ≡ b → (f : Bool) → leb (from + length xs) (length t) ≡ f → written xs from t ≡ write_rows set xs from t
    go true p f q =
        let l : length t ≤ from = leb-true _ _ p in
        let z : r ≡ 0 = omega arith in
        rw (take_all from t l, z, drop_of_length-le t {i = from + length xs} (omega arith)) (append-nil t ∙ sym (written-past xs from t l))
    go false p true q =
        let l : from + length xs ≤ length t = leb-true _ _ q in
        rw (take_all r xs (omega arith)) (sym (cells-block xs from t l ∙ append_assoc (take from t) xs (drop (from + length xs) t)))
    go false p false q =
        let l : length t < from + length xs = leb-false _ _ q in
        let m : from < length t = leb-false _ _ p in
        let n : length (take r xs) ≡ r = length-take-le r xs (omega arith) in
        rw (drop_of_length-le t {i = from + length xs} (omega arith))
        (sym (sym (written_all xs from r t (λ k. omega arith)) ∙ (cells-block (take r xs) from t (omega arith) ∙ append_assoc (take from t) (take r xs) (drop (from + length (take r xs)) t) ∙ ap (λ (d : List ℕ). take from t ++ (take r xs ++ d)) (drop_of_length-le t {i = from + length (take r xs)} (omega arith)))))
