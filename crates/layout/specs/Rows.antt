-- One law of rows, for every table, whatever the width of a row; and that rows of three cells and single cells keep it. Objects' rows do in ObjectRows, frames'
-- in FrameRows.
use Rattle.std.specs.Prelude.{◌≡◌, ◌≢◌, get_or, set, take, drop}
use Rattle.std.proofs.Math.Path.{refl}
use Rattle.std.proofs.Common.{sym, ◌∙◌, suc-mul, mul-le-mul_right, length-set, get_or-set_same, get_or-set_other}
use mathlib.Core.List.{List, [], ◌∷◌, ◌++◌}
use Prim.Native.Nat.{ℕ, suc, ◌+◌, ◌*◌, ◌<◌, ◌≤◌}
use native.Mathlib.Omega.{arith}
use Rattle.std.proofs.Math.ListN.{length}
use Rattle.std.proofs.lemmas.List.Edits.{sets, sets-eq}
use Rattle.std.proofs.lemmas.List.{set-get_or, set_comm}
use Rattle.definition.specs.Numbers.{row_cells}
use Rattle.definition.specs.Lists.{rows, write_rows, stack, write_stack}
use Rattle.definition.specs.Tables.{three_at, put_three, class_row, entry, tie, subtype, class_row_at, put_class_row, entry_at, put_entry, tie_at, put_tie, subtype_at, put_subtype}
use Rattle.layout.specs.Tests.{All, all-each}
use Rattle.layout.specs.Places.{rows-cong, rows_last, rows_both, write_rows-append, write_rows-below, write_rows-first, write_rows-snoc, write_rows-copy, write_rows-same, write_rows-last, rows_written, stack-written, Within, within-set, within_both, within-apart}

-- Rows of w cells, where Fits says what has room in one. What is read is written back as it was, whatever the cells hold; what fits is read back as it was
-- written, and then every other row that fits stays; rows are written in any order.

pub record RowLaws {A : Type 0} (at : List ℕ → ℕ → A) (put : List ℕ → ℕ → A → List ℕ) (w : ℕ) (Fits : A → Type 0) : Type 0 where
  pub same : (t : List ℕ) (i : ℕ) → put t i (at t i) ≡ t
  pub back : (t : List ℕ) (i : ℕ) (x : A) → i * w + w ≤ length t → Fits x → at (put t i x) i ≡ x
  pub other : (t : List ℕ) (i j : ℕ) (x : A) → i ≢ j → Fits x → Fits (at t i) → at (put t j x) i ≡ at t i
  pub long : (t : List ℕ) (i : ℕ) (x : A) → length (put t i x) ≡ length t
  pub commute : (t : List ℕ) (i j : ℕ) (x y : A) → i < j → Fits x → Fits y → put (put t j y) i x ≡ put (put t i x) j y

module _ {A : Type 0} {at : List ℕ → ℕ → A} {put : List ℕ → ℕ → A → List ℕ} {w : ℕ} {Fits : A → Type 0} (laws : RowLaws at put w Fits) where
  -- rows that were written are read back
  pub fitting-back : (xs : List A) (t : List ℕ) → length xs * w ≤ length t → All Fits xs → rows (at (write_rows put xs 0 t)) (length xs) 0 ≡ xs
  fitting-back xs t l a =
      rows_written put laws.long at Fits (length t) (length xs)
      (λ s i x e h p. laws.back s i x (omega (arith, mul-le-mul_right w h, suc-mul i w)) p) (λ s i j x h p q. laws.other s i j x (λ e. omega arith) p q) xs 0 (omega arith)
      a t refl

  -- and so is a stack, its bottom in row b
  pub stack-back : (b : ℕ) (xs : List A) (t : List ℕ) → (b + length xs) * w ≤ length t → All Fits xs
      → stack (λ i. at (write_stack (λ s i. put s (b + i)) xs t) (b + i)) (length xs) ≡ xs
  stack-back b xs t l a =
      stack-written (λ s i. put s (b + i)) (λ s i x. laws.long s (b + i) x) (λ s i. at s (b + i)) Fits (length t) (length xs)
      (λ s i x e h p. laws.back s (b + i) x (room i (length s) e h) p) (λ s i j x h p q. laws.other s (b + i) (b + j) x (λ e. omega arith) p q) xs (omega arith) a t refl
    where
      room : (i n : ℕ) → n ≡ length t → i < length xs → (b + i) * w + w ≤ n
      room i n e h = let z : suc (b + i) ≤ b + length xs = omega arith in omega (arith, mul-le-mul_right w z, suc-mul (b + i) w)

  -- a row that fits and lies elsewhere stays where a stack is written
  pub stack-apart : (b : ℕ) (xs : List A) (i : ℕ) (t : List ℕ) → ((j : ℕ) → j < length xs → i ≢ b + j) → All Fits xs → Fits (at t i)
      → at (write_stack (λ s j. put s (b + j)) xs t) i ≡ at t i
  unfolding write_stack
  stack-apart b [] i t n a f = refl
  stack-apart b (x ∷ xs) i t n a f =
      let u : List ℕ = write_stack (λ s j. put s (b + j)) xs t in
      let ih : at u i ≡ at t i = stack-apart b xs i t (λ j h. n j (omega arith)) a.1 f in
      laws.other u i (b + length xs) x (n (length xs) (omega arith)) a.0 (rw ih f) ∙ ih

  -- rows written back as they were read
  pub rows-kept : (t : List ℕ) (n : ℕ) → write_rows put (rows (at t) n 0) 0 t ≡ t
  rows-kept t n = write_rows-same put (at t) t (laws.same t) n 0

-- Rows that hold anything

abbrev pub Anything : {A : Type 0} → A → Type 0
Anything x = Unit {0}

pub all-anything : {A : Type 0} (xs : List A) → All Anything xs
all-anything xs = all-each Anything (λ x. tt) xs

module _ {A : Type 0} {at : List ℕ → ℕ → A} {put : List ℕ → ℕ → A → List ℕ} {w : ℕ} (laws : RowLaws at put w Anything) where
  pub rows_back : (xs : List A) (t : List ℕ) → length xs * w ≤ length t → rows (at (write_rows put xs 0 t)) (length xs) 0 ≡ xs
  rows_back xs t l = fitting-back laws xs t l (all-anything xs)

  other : (t : List ℕ) (i j : ℕ) (x : A) → i ≢ j → at (put t j x) i ≡ at t i
  other t i j x n = laws.other t i j x n tt tt

  below : (t : List ℕ) (i j : ℕ) (x : A) → i < j → at (put t j x) i ≡ at t i
  below t i j x l = other t i j x (λ e. omega arith)

  commute : (t : List ℕ) (i j : ℕ) (x y : A) → i < j → put (put t j y) i x ≡ put (put t i x) j y
  commute t i j x y l = laws.commute t i j x y l tt tt

  -- rows written back as they were read, with others behind them
  pub rows_more : (t : List ℕ) (n : ℕ) (xs : List A) → write_rows put (rows (at t) n 0 ++ xs) 0 t ≡ write_rows put xs n t
  rows_more t n xs = write_rows-append put at laws.same below t n xs

  pub row_more : (t : List ℕ) (n : ℕ) (x : A) → write_rows put (rows (at t) n 0 ++ (x ∷ [])) 0 t ≡ put t n x
  row_more t n x = write_rows-last put at laws.same below t n x

  -- rows written from the first on, as a loop writes them
  pub rows-first : (x : A) (xs : List A) (i : ℕ) (t : List ℕ) → write_rows put (x ∷ xs) i t ≡ write_rows put xs (suc i) (put t i x)
  rows-first x xs i t = write_rows-first put commute x xs i t

  pub rows_snoc : (xs : List A) (x : A) (i : ℕ) (t : List ℕ) → write_rows put (xs ++ (x ∷ [])) i t ≡ put (write_rows put xs i t) (i + length xs) x
  rows_snoc xs x i t = write_rows-snoc put commute xs x i t

  pub rows-copy : (xs : List A) (d : A) (i j : ℕ) (t : List ℕ) → j < length xs → write_rows put (take (suc j) xs) i t
      ≡ put (write_rows put (take j xs) i t) (i + j) (get_or xs j d)
  rows-copy xs d i j t l = write_rows-copy put commute xs d i j t l

  -- rows written in two parts, the second behind the first
  pub rows-parts : (xs ys : List A) (i : ℕ) (t : List ℕ) → write_rows put (xs ++ ys) i t ≡ write_rows put ys (i + length xs) (write_rows put xs i t)
  unfolding write_rows
  rows-parts [] ys i t = let e : i + 0 ≡ i = omega arith in rw e
  rows-parts (x ∷ xs) ys i t =
      let e : i + suc (length xs) ≡ suc i + length xs = omega arith in
      rows-first x (xs ++ ys) i t ∙ (rows-parts xs ys (suc i) (put t i x) ∙ (λ j. write_rows put ys (sym e j) (sym (rows-first x xs i t) j)))

  pub rows-after-last : (t : List ℕ) (n : ℕ) (x : A) → suc n * w ≤ length t → rows (at (put t n x)) (suc n) 0 ≡ rows (at t) n 0 ++ (x ∷ [])
  rows-after-last t n x h =
      let e : 0 + n ≡ n = omega arith in
      rows_last (at (put t n x)) n 0
      ∙ rw (e, laws.back t n x (omega (arith, suc-mul n w)) tt, rows-cong (at (put t n x)) (at t) n 0 (λ m a k. other t m n x (λ r. omega arith)))

-- what is read after rows were written behind the first n
pub rows-after-more : {A : Type 0} {at : List ℕ → ℕ → A} {put : List ℕ → ℕ → A → List ℕ} {w : ℕ} (laws : RowLaws at put w Anything) (xs : List A) (t : List ℕ) (n : ℕ)
    → (n + length xs) * w ≤ length t
    → rows (at (write_rows put xs n t)) (n + length xs) 0 ≡ rows (at t) n 0 ++ xs
rows-after-more {at = at} {put = put} {w = w} laws xs t n h =
    let z : 0 + n ≡ n = omega arith in
    rows_both (at (write_rows put xs n t)) n (length xs) 0
    ∙ rw (
      z,
      rows-cong (at (write_rows put xs n t)) (at t) n 0 (λ m a k. write_rows-below put at laws.same (below laws) xs m n t (omega arith)),
      rows_written put laws.long at Anything (length t) (n + length xs)
          (λ s i x e k p. laws.back s i x (omega (arith, mul-le-mul_right w k, suc-mul i w)) tt) (λ s i j x k p q. other laws s i j x (λ e. omega arith)) xs n (omega arith)
          (all-anything xs) t refl,
    )

module _ (t : List ℕ) where
  three-same : (i : ℕ) → put_three t i (get_or t (i * row_cells) 0) (get_or t (i * row_cells + 1) 0) (get_or t (i * row_cells + 2) 0) ≡ t
  three-same i = rw (set-get_or t (i * row_cells) 0, set-get_or t (i * row_cells + 1) 0) (set-get_or t (i * row_cells + 2) 0)

  three-length : (i a b c : ℕ) → length (put_three t i a b c) ≡ length t
  three-length i a b c = simp length-set

  three-cell : (i a b c m : ℕ) → m ≢ i * row_cells → m ≢ i * row_cells + 1 → m ≢ i * row_cells + 2 → get_or (put_three t i a b c) m 0 ≡ get_or t m 0
  three-cell i a b c m x y z =
      get_or-set_other (set (set t (i * row_cells) a) (i * row_cells + 1) b) (i * row_cells + 2) m c 0 z
      ∙ (get_or-set_other (set t (i * row_cells) a) (i * row_cells + 1) m b 0 y ∙ get_or-set_other t (i * row_cells) m a 0 x)

  three-first : (i a b c : ℕ) → i * row_cells + row_cells ≤ length t → get_or (put_three t i a b c) (i * row_cells) 0 ≡ a
  three-first i a b c l =
      get_or-set_other (set (set t (i * row_cells) a) (i * row_cells + 1) b) (i * row_cells + 2) (i * row_cells) c 0 (λ e. omega arith)
      ∙ (get_or-set_other (set t (i * row_cells) a) (i * row_cells + 1) (i * row_cells) b 0 (λ e. omega arith) ∙ get_or-set_same t (i * row_cells) a 0 (omega arith))

  three-second : (i a b c : ℕ) → i * row_cells + row_cells ≤ length t → get_or (put_three t i a b c) (i * row_cells + 1) 0 ≡ b
  three-second i a b c l =
      get_or-set_other (set (set t (i * row_cells) a) (i * row_cells + 1) b) (i * row_cells + 2) (i * row_cells + 1) c 0 (λ e. omega arith)
      ∙ get_or-set_same (set t (i * row_cells) a) (i * row_cells + 1) b 0 (simp length-set (omega arith))

  three_third : (i a b c : ℕ) → i * row_cells + row_cells ≤ length t → get_or (put_three t i a b c) (i * row_cells + 2) 0 ≡ c
  three_third i a b c l = get_or-set_same (set (set t (i * row_cells) a) (i * row_cells + 1) b) (i * row_cells + 2) c 0 (simp length-set (omega arith))

within-three : (i a b c : ℕ) → Within (λ t. put_three t i a b c) (i * row_cells) (i * row_cells + row_cells)
within-three i a b c =
    within_both (λ t. set t (i * row_cells + 2) c) (λ t. set (set t (i * row_cells) a) (i * row_cells + 1) b) (i * row_cells) (i * row_cells + row_cells)
    (within-set (i * row_cells + 2) c (i * row_cells) (i * row_cells + row_cells) (omega arith) (omega arith))
    (within_both (λ t. set t (i * row_cells + 1) b) (λ t. set t (i * row_cells) a) (i * row_cells) (i * row_cells + row_cells)
    (within-set (i * row_cells + 1) b (i * row_cells) (i * row_cells + row_cells) (omega arith) (omega arith)) (within-set (i * row_cells) a (i * row_cells) (i * row_cells + row_cells) (omega arith) (omega arith)))

three-commute : (t : List ℕ) (i j a b c d e f : ℕ) → i < j → put_three (put_three t j d e f) i a b c ≡ put_three (put_three t i a b c) j d e f
three-commute t i j a b c d e f l =
    within-apart (λ s. put_three s i a b c) (λ s. put_three s j d e f) (i * row_cells) (i * row_cells + row_cells) (j * row_cells) (j * row_cells + row_cells) (within-three i a b c) (within-three j d e f)
    (λ m n u v x y q. omega arith) t

-- three cells are a row, whatever is made of them
three-rows : {A : Type 0} (make : ℕ → ℕ → ℕ → A) (a b c : A → ℕ) → ((x : A) → make (a x) (b x) (c x) ≡ x)
    → ((x y z : ℕ) → (a (make x y z) ≡ x) × (b (make x y z) ≡ y) × (c (make x y z) ≡ z)) → RowLaws (three_at make) (λ t i x. put_three t i (a x) (b x) (c x)) row_cells Anything
three-rows make a b c whole parts = record {
  same = λ t i. let p = parts (get_or t (i * row_cells) 0) (get_or t (i * row_cells + 1) 0) (get_or t (i * row_cells + 2) 0) in rw (p.0, p.1, p.2) (three-same t i);
  back = λ t i x l _. rw (three-first t i (a x) (b x) (c x) l, three-second t i (a x) (b x) (c x) l, three_third t i (a x) (b x) (c x) l) (whole x);
  other = λ t i j x n _ _.
      let cell : (m : ℕ) → m < row_cells → get_or (put_three t j (a x) (b x) (c x)) (i * row_cells + m) 0 ≡ get_or t (i * row_cells + m) 0 =
      λ m h. three-cell t j (a x) (b x) (c x) (i * row_cells + m) (λ e. omega arith) (λ e. omega arith) (λ e. omega arith) in
      let z : i * row_cells + 0 ≡ i * row_cells = omega arith in
      let c0 : get_or (put_three t j (a x) (b x) (c x)) (i * row_cells) 0 ≡ get_or t (i * row_cells) 0 = rw z at (cell 0 (omega arith)) in
      rw (c0, cell 1 (omega arith), cell 2 (omega arith));
  long = λ t i x. three-length t i (a x) (b x) (c x);
  commute = λ t i j x y l _ _. three-commute t i j (a x) (b x) (c x) (a y) (b y) (c y) l;
}

pub class-rows : RowLaws class_row_at put_class_row row_cells Anything
unfolding class_row_at put_class_row
class-rows = three-rows class_row (λ k. k.loader) (λ k. k.start) (λ k. k.size) (λ x. refl) (λ x y z. (refl, refl, refl))

pub entry-rows : RowLaws entry_at put_entry row_cells Anything
unfolding entry_at put_entry
entry-rows = three-rows entry (λ e. e.request.loader) (λ e. e.request.name) (λ e. e.class) (λ x. refl) (λ x y z. (refl, refl, refl))

pub tie-rows : RowLaws tie_at put_tie row_cells Anything
unfolding tie_at put_tie
tie-rows = three-rows tie (λ e. e.one) (λ e. e.two) (λ e. e.name) (λ x. refl) (λ x y z. (refl, refl, refl))

pub subtype-rows : RowLaws subtype_at put_subtype row_cells Anything
unfolding subtype_at put_subtype
subtype-rows = three-rows subtype (λ e. e.loader) (λ e. e.low) (λ e. e.high) (λ x. refl) (λ x y z. (refl, refl, refl))

-- single cells: counts and kept bytes
pub cell-rows : RowLaws (λ t i. get_or t i 0) set 1 Anything
cell-rows = record {
  same = λ t i. set-get_or t i 0;
  back = λ t i x l _. get_or-set_same t i x 0 (omega arith);
  other = λ t i j x n _ _. get_or-set_other t j i x 0 n;
  long = λ t i x. length-set t i x;
  commute = λ t i j x y l _ _. set_comm t j i y x (λ e. omega arith);
}

-- cells written from the first on, and as a block
pub cells-sets : (xs : List ℕ) (i : ℕ) (t : List ℕ) → write_rows set xs i t ≡ sets t i xs
unfolding write_rows
cells-sets [] i t = refl
cells-sets (x ∷ xs) i t = rows-first cell-rows x xs i t ∙ cells-sets xs (suc i) (set t i x)

pub cells-block : (xs : List ℕ) (i : ℕ) (t : List ℕ) → i + length xs ≤ length t → write_rows set xs i t ≡ take i t ++ xs ++ drop (i + length xs) t
cells-block xs i t l = cells-sets xs i t ∙ sets-eq xs t i l
