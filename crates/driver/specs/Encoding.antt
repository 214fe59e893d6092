-- Every list of calls whose starts have 16-bit names can be driven: it has rows and files that are read as that list.
use Rattle.std.specs.Prelude.{◌≡◌, refl, get_or}
use Rattle.std.proofs.Common.{ap, ◌∙◌, mul-div_cancel, get_or-append-add}
use Rattle.std.proofs.Math.Option.{Option, some}
use mathlib.Core.List.{List, [], ◌∷◌, ◌++◌, append_assoc}
use Prim.Native.Nat.{ℕ, suc, ◌+◌, ◌*◌, ◌≤◌}
use native.Mathlib.Omega.{arith}
use Rattle.std.proofs.Math.ListN.{length, length-append}
use Rattle.std.proofs.Math.Seq.{take-append_seam, drop-append_seam}
use borrow.Author.Tests.{le-leb}
use Rattle.definition.specs.Instructions.{pick}
use Rattle.definition.specs.Calls.{row_define, row_record, row_start, row_drop, row_sweep, row_try, row_take_back, load_define, load_record, Call, call_boot, call_rows, call_define, call_step, call_run, call_try}
use Rattle.layout.specs.Tests.{All}
use Rattle.classfile.specs.Searches.{part-there}
use Rattle.driver.specs.Encoded.{kind_in, cell_in, file_in, call_in, calls_from, calls_in}

-- a call's file, and its row if that file begins at byte s
unfoldable pub file_of : Call → List ℕ
file_of call_boot = []
file_of (call_rows (row_define l bs)) = bs
file_of (call_rows (row_record l n c)) = []
file_of (call_rows (row_start k l n m v)) = []
file_of call_step = []
file_of (call_run n) = []
file_of (call_rows (row_drop k)) = []
file_of (call_rows row_sweep) = []
file_of (call_rows row_take_back) = []
file_of (call_rows (row_try (load_define l bs) n)) = bs
file_of (call_rows (row_try (load_record l m c) n)) = []

unfoldable pub row_of : Call → ℕ → List ℕ
row_of call_boot s = 0 ∷ 0 ∷ 0 ∷ 0 ∷ 0 ∷ 0 ∷ []
row_of (call_rows (row_define l bs)) s = 1 ∷ l ∷ s ∷ length bs ∷ 0 ∷ 0 ∷ []
row_of (call_rows (row_record l n c)) s = 2 ∷ l ∷ n ∷ c ∷ 0 ∷ 0 ∷ []
row_of (call_rows (row_start k l n m v)) s = 3 ∷ k ∷ l ∷ n ∷ m ∷ v ∷ []
row_of call_step s = 4 ∷ 0 ∷ 0 ∷ 0 ∷ 0 ∷ 0 ∷ []
row_of (call_run n) s = 5 ∷ n ∷ 0 ∷ 0 ∷ 0 ∷ 0 ∷ []
row_of (call_rows (row_drop k)) s = 6 ∷ k ∷ 0 ∷ 0 ∷ 0 ∷ 0 ∷ []
row_of (call_rows row_sweep) s = 7 ∷ 0 ∷ 0 ∷ 0 ∷ 0 ∷ 0 ∷ []
row_of (call_rows row_take_back) s = 10 ∷ 0 ∷ 0 ∷ 0 ∷ 0 ∷ 0 ∷ []
row_of (call_rows (row_try (load_define l bs) n)) s = 8 ∷ l ∷ s ∷ length bs ∷ n ∷ 0 ∷ []
row_of (call_rows (row_try (load_record l m c) n)) s = 9 ∷ l ∷ m ∷ c ∷ n ∷ 0 ∷ []

-- files one behind another, and the rows, the first file beginning at byte s
unfoldable pub files_of : List Call → List ℕ
files_of [] = []
files_of (c ∷ cs) = file_of c ++ files_of cs

unfoldable pub cells_of : List Call → ℕ → List ℕ
cells_of [] s = []
cells_of (c ∷ cs) s = row_of c s ++ cells_of cs (s + length (file_of c))

abbrev pub Named : Call → Type 0
Named call_boot = Unit {0}
Named (call_rows (row_define l bs)) = Unit {0}
Named (call_rows (row_record l n c)) = Unit {0}
Named (call_rows (row_start k l n m v)) = (n ≤ 65535) × (m ≤ 65535)
Named call_step = Unit {0}
Named (call_run n) = Unit {0}
Named (call_rows (row_drop k)) = Unit {0}
Named (call_rows row_sweep) = Unit {0}
Named (call_rows row_take_back) = Unit {0}
Named (call_rows (row_try c n)) = Unit {0}

-- a row behind i others
module _ (xs : List ℕ) (i : ℕ) (behind : length xs ≡ i * 6) where
  cell_at : (ys : List ℕ) (k : ℕ) → cell_in (xs ++ ys) i k ≡ get_or ys k 0
  unfolding cell_in
  cell_at ys k = rw (← behind) (get_or-append-add xs ys k 0)

  kind_at : (ys : List ℕ) → kind_in (xs ++ ys) i ≡ get_or ys 0 0
  unfolding kind_in
  kind_at ys = let e : i * 6 ≡ length xs + 0 = omega arith in rw e (get_or-append-add xs ys 0 0)

  define-read : (l : ℕ) (bs fs rest more : List ℕ)
      → call_in (xs ++ (1 ∷ l ∷ length fs ∷ length bs ∷ 0 ∷ 0 ∷ rest)) (fs ++ (bs ++ more)) i ≡ some (call_define l bs)
  unfolding call_in file_in pick
  define-read l bs fs rest more =
      let ys : List ℕ = 1 ∷ l ∷ length fs ∷ length bs ∷ 0 ∷ 0 ∷ rest in
      let within : length fs + length bs ≤ length (fs ++ (bs ++ more)) = omega (arith, length-append fs (bs ++ more), length-append bs more) in
      rw (
        kind_at ys,
        cell_at ys 1,
        cell_at ys 2,
        cell_at ys 3,
        le-leb _ _ within,
        part-there (fs ++ (bs ++ more)) (length fs) (length bs) within,
        drop-append_seam fs (bs ++ more),
        take-append_seam bs more,
      )

  try-define-read : (l : ℕ) (bs : List ℕ) (n : ℕ) (fs rest more : List ℕ)
      → call_in (xs ++ (8 ∷ l ∷ length fs ∷ length bs ∷ n ∷ 0 ∷ rest)) (fs ++ (bs ++ more)) i ≡ some (call_try (load_define l bs) n)
  unfolding call_in file_in pick
  try-define-read l bs n fs rest more =
      let ys : List ℕ = 8 ∷ l ∷ length fs ∷ length bs ∷ n ∷ 0 ∷ rest in
      let within : length fs + length bs ≤ length (fs ++ (bs ++ more)) = omega (arith, length-append fs (bs ++ more), length-append bs more) in
      rw (
        kind_at ys,
        cell_at ys 1,
        cell_at ys 2,
        cell_at ys 3,
        cell_at ys 4,
        le-leb _ _ within,
        part-there (fs ++ (bs ++ more)) (length fs) (length bs) within,
        drop-append_seam fs (bs ++ more),
        take-append_seam bs more,
      )

  row_read : (c : Call) → Named c → (fs rest more : List ℕ) → call_in (xs ++ (row_of c (length fs) ++ rest)) (fs ++ (file_of c ++ more)) i ≡ some c
  unfolding call_in pick row_of file_of
  row_read call_boot h fs rest more = rw (kind_at (0 ∷ 0 ∷ 0 ∷ 0 ∷ 0 ∷ 0 ∷ rest))
  row_read (call_rows (row_define l bs)) h fs rest more = define-read l bs fs rest more
  row_read (call_rows (row_record l n c)) h fs rest more =
      let ys : List ℕ = 2 ∷ l ∷ n ∷ c ∷ 0 ∷ 0 ∷ rest in
      rw (kind_at ys, cell_at ys 1, cell_at ys 2, cell_at ys 3)
  row_read (call_rows (row_start k l n m v)) h fs rest more =
      let ys : List ℕ = 3 ∷ k ∷ l ∷ n ∷ m ∷ v ∷ rest in
      rw (kind_at ys, cell_at ys 1, cell_at ys 2, cell_at ys 3, cell_at ys 4, cell_at ys 5, le-leb n 65535 h.0, le-leb m 65535 h.1)
  row_read call_step h fs rest more = rw (kind_at (4 ∷ 0 ∷ 0 ∷ 0 ∷ 0 ∷ 0 ∷ rest))
  row_read (call_run n) h fs rest more =
      let ys : List ℕ = 5 ∷ n ∷ 0 ∷ 0 ∷ 0 ∷ 0 ∷ rest in
      rw (kind_at ys, cell_at ys 1)
  row_read (call_rows (row_drop k)) h fs rest more =
      let ys : List ℕ = 6 ∷ k ∷ 0 ∷ 0 ∷ 0 ∷ 0 ∷ rest in
      rw (kind_at ys, cell_at ys 1)
  row_read (call_rows row_sweep) h fs rest more = rw (kind_at (7 ∷ 0 ∷ 0 ∷ 0 ∷ 0 ∷ 0 ∷ rest))
  row_read (call_rows row_take_back) h fs rest more = rw (kind_at (10 ∷ 0 ∷ 0 ∷ 0 ∷ 0 ∷ 0 ∷ rest))
  row_read (call_rows (row_try (load_define l bs) n)) h fs rest more = try-define-read l bs n fs rest more
  row_read (call_rows (row_try (load_record l m c) n)) h fs rest more =
      let ys : List ℕ = 9 ∷ l ∷ m ∷ c ∷ n ∷ 0 ∷ rest in
      rw (kind_at ys, cell_at ys 1, cell_at ys 2, cell_at ys 3, cell_at ys 4)

row-length : (c : Call) (s : ℕ) → length (row_of c s) ≡ 6
unfolding row_of
row-length call_boot s = refl
row-length (call_rows (row_define l bs)) s = refl
row-length (call_rows (row_record l n c)) s = refl
row-length (call_rows (row_start k l n m v)) s = refl
row-length call_step s = refl
row-length (call_run n) s = refl
row-length (call_rows (row_drop k)) s = refl
row-length (call_rows row_sweep) s = refl
row-length (call_rows row_take_back) s = refl
row-length (call_rows (row_try (load_define l bs) n)) s = refl
row-length (call_rows (row_try (load_record l m c) n)) s = refl

cells-length : (cs : List Call) (s : ℕ) → length (cells_of cs s) ≡ length cs * 6
unfolding cells_of
cells-length [] s = refl
cells-length (c ∷ cs) s =
    let rest = cells_of cs (s + length (file_of c)) in
    omega (arith, length-append (row_of c s) rest, row-length c s, cells-length cs (s + length (file_of c)))

calls-next : (g : ℕ → Option Call) (k i : ℕ) (c : Call) → g i ≡ some c → calls_from g (suc k) i ≡ c ∷ calls_from g k (suc i)
unfolding calls_from
calls-next g k i c h = rw (h, calls_from)

calls-read : (cs : List Call) → All Named cs → (xs fs : List ℕ) (i : ℕ) → length xs ≡ i * 6
    → calls_from (call_in (xs ++ cells_of cs (length fs)) (fs ++ files_of cs)) (length cs) i ≡ cs
unfolding calls_from cells_of files_of
calls-read [] h xs fs i q = refl
calls-read (c ∷ cs) h xs fs i q =
    let row = row_of c (length fs) in
    let rest = cells_of cs (length fs + length (file_of c)) in
    let next : length (xs ++ row) ≡ suc i * 6 = omega (arith, length-append xs row, row-length c (length fs)) in
    calls-next _ (length cs) i c (row_read xs i q c h.0 fs rest (files_of cs))
    ∙ (ap (λ (ds : List Call). c ∷ ds) (rw (length-append fs (file_of c), append_assoc xs row rest, append_assoc fs (file_of c) (files_of cs)) at (calls-read cs h.1 (xs ++ row) (fs ++ file_of c) (suc i) next)))

pub encoded : (cs : List Call) → All Named cs → calls_in (cells_of cs 0) (files_of cs) ≡ cs
unfolding calls_in
encoded cs h = rw (cells-length cs 0, mul-div_cancel (length cs) {n = 6} (omega arith)) (calls-read cs h [] [] 0 refl)
