-- Bytes of a table: those of a window moved to its front, and a part from a place on.
use Rattle.std.specs.Prelude.{◌≡◌, refl, Bool, true, false, ltb, min, List, [], ◌++◌, ℕ, suc, ◌+◌, ◌-◌, ◌≤◌, ◌<◌, length, get_or, set, take, drop}
use Rattle.std.proofs.Common.{sym, ◌∙◌, ltb-true, ltb-false, append-nil, append_assoc, arith, length-append, length-take, length-drop, take-append-drop, drop_of_length-le, take_all, drop-drop, get_or-drop, get_or-append-add}
use Rattle.definition.specs.Lists.{write_rows}
use Rattle.layout.specs.Cells.{cell-rows, rows-copy, cells-block}

-- a cell past those written
past : (xs t : List ℕ) (i : ℕ) → length xs ≤ i → i < length t → get_or (write_rows set xs 0 t) i 0 ≡ get_or t i 0
past xs t i h l =
    let e : i ≡ length xs + (i - length xs) = omega arith in
    let f : 0 + length xs + (i - length xs) ≡ i = omega arith in
    rw (cells-block xs 0 t (omega arith), e) (get_or-append-add xs (drop (0 + length xs) t) (i - length xs) 0 ∙ get_or-drop (0 + length xs) t (i - length xs) 0 ∙ rw (f, ← e))

-- the window w with its bytes from one place up to another at its front
unfoldable pub moved : ℕ → ℕ → List ℕ → List ℕ
moved from to w = write_rows set (take (to - from) (drop from w)) 0 w

pub moved_none : (from : ℕ) (w : List ℕ) → w ≡ moved from from w
unfolding moved write_rows
moved_none from w = let e : from - from ≡ 0 = omega arith in rw e

pub moved_more : (from i : ℕ) (w : List ℕ) → from ≤ i → i < length w → set (moved from i w) (i - from) (get_or (moved from i w) i 0) ≡ moved from (i + 1) w
unfolding moved
moved_more from i w f h =
    let k : i + 1 - from ≡ suc (i - from) = omega arith in
    let e : 0 + (i - from) ≡ i - from = omega arith in
    let g : from + (i - from) ≡ i = omega arith in
    let xs = drop from w in
    let short : length (take (i - from) xs) ≤ i = omega (arith, length-take (i - from) xs) in
    rw (k, rows-copy cell-rows xs 0 0 (i - from) w (omega (arith, length-drop from w)), e, past (take (i - from) xs) w i short h, get_or-drop from w (i - from) 0, g)

-- only the bytes that are there count
pub moved-end : (from to : ℕ) (w : List ℕ) → length w ≤ to → moved from (length w) w ≡ moved from to w
unfolding moved
moved-end from to w h =
    let xs = drop from w in
    let n = length-drop from w in
    rw (take_all (length w - from) xs (omega (arith, n)), take_all (to - from) xs (omega (arith, n)))

pub moved_same : (from i j : ℕ) (w : List ℕ) → i - from ≡ j - from → moved from i w ≡ moved from j w
unfolding moved
moved_same from i j w e = rw e

pub moved-min : (from to : ℕ) (w : List ℕ) → moved from (min to (length w)) w ≡ moved from to w
moved-min from to w = step (ltb to (length w)) refl
  where
    step : (t : Bool) → ltb to (length w) ≡ t → moved from (min to (length w)) w ≡ moved from to w
    step true q = let e : min to (length w) ≡ to = omega (arith, ltb-true to (length w) q) in rw e
    step false q =
        let h = ltb-false to (length w) q in
        let e : min to (length w) ≡ length w = omega (arith, h) in
        rw e (moved-end from to w h)

-- A part of a table from a place on, which is all that is there; and the table with that part changed

abbrev pub part_of : ℕ → List ℕ → List ℕ
part_of at s = take (length s - at) (drop at s)

abbrev pub put_part : ℕ → List ℕ → List ℕ → List ℕ
put_part at s ys = take at s ++ (ys ++ drop (length s - at) (drop at s))

pub part-all : (at : ℕ) (s : List ℕ) → part_of at s ≡ drop at s
part-all at s = take_all (length s - at) (drop at s) (omega (arith, length-drop at s))

pub put_same : (at : ℕ) (s : List ℕ) → put_part at s (part_of at s) ≡ s
put_same at s = rw (take-append-drop (length s - at) (drop at s)) (take-append-drop at s)

put_all : (at : ℕ) (s ys : List ℕ) → put_part at s ys ≡ take at s ++ ys
put_all at s ys =
    let over : drop (length s - at) (drop at s) ≡ [] = drop_of_length-le (drop at s) {i = length s - at} (omega (arith, length-drop at s)) in
    rw (over, append-nil ys)

-- bytes written at a part's front are written at the part's place
pub put-part : (at : ℕ) (s bs : List ℕ) → at + length bs ≤ length s → put_part at s (write_rows set bs 0 (part_of at s)) ≡ write_rows set bs at s
put-part at s bs h =
    let e : at + (0 + length bs) ≡ at + length bs = omega arith in
    let block : write_rows set bs 0 (drop at s) ≡ bs ++ drop (0 + length bs) (drop at s) = cells-block bs 0 (drop at s) (omega (arith, length-drop at s)) in
    put_all at s (write_rows set bs 0 (part_of at s))
    ∙ rw (part-all at s, block, drop-drop (0 + length bs) at s, e, cells-block bs at s h) (sym (append_assoc (take at s) bs (drop (at + length bs) s)))

pub part_length : (at : ℕ) (s ys : List ℕ) → length ys ≡ length (part_of at s) → length (put_part at s ys) ≡ length s
part_length at s ys e =
    rw (put_all at s ys) (omega (arith, e, length-append (take at s) ys, length-take at s, length-take (length s - at) (drop at s), length-drop at s))
