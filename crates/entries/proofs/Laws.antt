-- Cells copied one after another.
use Rattle.std.proofs.Common.{◌≡◌, ℕ, zero, suc, ◌+◌, ◌<◌, ◌≤◌, List, [], ◌∷◌, length, get_or, drop, set, refl, ◌∙◌, append-nil, arith, length-set, drop_of_length-le, get_or-set_other, get_or-set_same}
use Rattle.definition.specs.Lists.{write_rows}
use Rattle.layout.specs.Places.{write_rows-length}
use Rattle.layout.specs.Cells.{cells-block}

-- a table copied onto another of its length
pub copied : (xs t : List ℕ) → length xs ≡ length t → write_rows set xs 0 t ≡ xs
copied xs t e =
    let n : drop (0 + length xs) t ≡ [] = drop_of_length-le t {i = 0 + length xs} (omega arith) in
    cells-block xs 0 t (omega arith) ∙ (rw n (append-nil xs))

-- a cell of a table with the cells of another written over its front, as far as it has room
pub written-front : (xs : List ℕ) (j i : ℕ) (t : List ℕ) → i < length xs → j + i < length t → get_or (write_rows set xs j t) (j + i) 0 ≡ get_or xs i 0
unfolding write_rows
written-front [] j i t l h = absurd (omega arith)
written-front (x ∷ xs) j zero t l h =
    let z : j + 0 ≡ j = omega arith in
    rw z (get_or-set_same (write_rows set xs (suc j) t) j x 0 (omega (arith, write_rows-length set length-set xs (suc j) t)))
written-front (x ∷ xs) j (suc i) t l h =
    let z : j + suc i ≡ suc j + i = omega arith in
    rw z (get_or-set_other (write_rows set xs (suc j) t) j (suc j + i) x 0 (λ e. omega arith) ∙ written-front xs (suc j) i t (omega arith) (omega arith))

-- and one behind them
pub written_behind : (xs : List ℕ) (j : ℕ) (t : List ℕ) (i : ℕ) → j + length xs ≤ i → get_or (write_rows set xs j t) i 0 ≡ get_or t i 0
unfolding write_rows
written_behind [] j t i h = refl
written_behind (x ∷ xs) j t i h = get_or-set_other (write_rows set xs (suc j) t) j i x 0 (λ e. omega arith) ∙ written_behind xs (suc j) t i (omega arith)
