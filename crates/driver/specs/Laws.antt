-- A drive row by row: the row's call is performed and answered, or the list ends there.
use Rattle.std.specs.Prelude as Std
use Rattle.std.specs.Prelude.{◌≡◌, refl, Some, None, length}
use Rattle.std.proofs.Common.{sym, ◌∙◌, true≢false, div-add-mod'}
use Rattle.std.proofs.Math.Path.{ap}
use Rattle.std.proofs.Math.Bool.{Bool, true, false}
use Rattle.std.proofs.lemmas.Bool.{false≢true}
use Rattle.std.proofs.Math.Option.{Option, none, some}
use mathlib.Core.List.{List, [], ◌∷◌}
use Prim.Native.Nat.{ℕ, suc, ◌+◌, ◌*◌, ◌-◌, ◌/◌, ◌<◌, ◌≤◌}
use native.Mathlib.Omega.{arith}
use Rattle.std.proofs.Math.Numerals.{add-one}
use Rattle.definition.specs.Lists.{write_rows}
use Rattle.definition.specs.declared.Reply.{Reply}
use Rattle.definition.specs.declared.Reply.TheVariants.{Accepted, Denied}
use Rattle.definition.specs.declared.Refusal.TheVariants.{Word}
use Rattle.definition.specs.Answers.{number_of, ends_in, count_of}
use Rattle.definition.specs.Tables.{Tables, shaped, put, class_row, put_class_row}
use Rattle.definition.specs.Calls.{Done, done, Call, boot_rows, boot, perform, perform_all}
use Rattle.layout.specs.Cells.{class-rows}
use Rattle.layout.specs.Places.{write_rows-first}
use Rattle.calls.specs.declared.Call as made
use Rattle.calls.specs.Made.{call_of}
use Rattle.driver.specs.Encoded.{call_in, calls_from, calls_in}
use Rattle.driver.specs.Driven.{put_reply, is_accepted, Driven, driven, performed, drive}

-- a row as it was read, with its file beside it
unfoldable pub call_made : Std.Option made.Call → List ℕ → Option Call
call_made None bs = none
call_made (Some c) bs = some (call_of c bs)

-- one row: whether it has a call, and what is left
pub record RowDone : Type 0 where
  pub readable : Bool
  pub tables : Tables
  pub answers : List ℕ

abbrev pub row_done : Bool → Tables → List ℕ → RowDone
row_done b t cells = record { readable = b; tables = t; answers = cells }

unfoldable pub perform_row : Option Call → ℕ → Tables → List ℕ → RowDone
perform_row none i t answers = row_done false t answers
perform_row (some c) i t answers = row_done true (perform c t).tables (put_reply answers i (perform c t).answer)

module _ (o : Option Call) (w : Std.Option made.Call) (bs : List ℕ) (reads : call_made w bs ≡ o) (i : ℕ) (t : Tables) (before : List ℕ) where
  pub row-unread : w ≡ None → row_done false t before ≡ perform_row o i t before
  unfolding call_made perform_row
  row-unread h = rw (← reads, h)

  pub row-performed : (c : made.Call) → w ≡ Some c → (a : Reply) (u : Tables) (after : List ℕ) → done a u ≡ perform (call_of c bs) t → after ≡ put_reply before i a → row_done true u after ≡ perform_row o i t before
  unfolding call_made perform_row
  row-performed c h a u after e q = rw (← reads, h, q, ← e)

reply-commute : (t : List ℕ) (i j : ℕ) (x y : Reply) → i < j → put_reply (put_reply t j y) i x ≡ put_reply (put_reply t i x) j y
unfolding put_reply put_class_row
reply-commute t i j x y l = class-rows.commute t i j (class_row (number_of x) (ends_in x) (count_of x)) (class_row (number_of y) (ends_in y) (count_of y)) l tt tt

performed-none : (i : ℕ) (t : Tables) (answers : List ℕ) → driven (Some i) t answers ≡ performed [] i t answers
unfolding performed perform_all write_rows
performed-none i t answers = let e : i + 0 ≡ i = omega arith in rw e

performed-one : (c : Call) (cs : List Call) (i : ℕ) (t : Tables) (answers : List ℕ) → performed cs (suc i) (perform c t).tables (put_reply answers i (perform c t).answer) ≡ performed (c ∷ cs) i t answers
unfolding performed perform_all
performed-one c cs i t answers =
    let e : suc i + length cs ≡ i + suc (length cs) = omega arith in
    let d = perform_all cs (perform c t).tables in
    rw e (ap (driven (Some (i + suc (length cs))) d.tables) (sym (write_rows-first put_reply reply-commute (perform c t).answer d.answer i answers)))

-- the rows that a table has room for lie within it
pub row_within : (k i : ℕ) → i < k / 6 → i * 6 + 6 ≤ k
row_within k i l = omega (arith, div-add-mod' k 6)

module _ (g : ℕ → Option Call) (n i : ℕ) (t : Tables) (before : List ℕ) where
  pub drive-ends : n ≤ i → driven (Some i) t before ≡ performed (calls_from g (n - i) i) i t before
  unfolding calls_from
  drive-ends l = let e : n - i ≡ 0 = omega arith in rw e (performed-none i t before)

  module _ (r : Bool) (u : Tables) (after : List ℕ) (row : row_done r u after ≡ perform_row (g i) i t before) (more : i < n) where
    pub drive-stops : r ≡ false → driven (Some i) u after ≡ performed (calls_from g (n - i) i) i t before
    unfolding calls_from perform_row
    drive-stops h = let e : n - i ≡ suc (n - suc i) = omega arith in rw e (go (g i) (n - suc i) row)
      where
        go : (o : Option Call) (k : ℕ) → row_done r u after ≡ perform_row o i t before
            → driven (Some i) u after ≡ performed (elim o [ none ↦ [] | some c ↦ c ∷ calls_from g k (suc i) ]) i t before
        go none k e = ap (λ (d : RowDone). driven (Some i) d.tables d.answers) e ∙ performed-none i t before
        go (some c) k e = absurd (false≢true (sym h ∙ ap (λ (d : RowDone). d.readable) e))

    pub drive-on : r ≡ true → performed (calls_from g (n - (i + 1)) (i + 1)) (i + 1) u after ≡ performed (calls_from g (n - i) i) i t before
    unfolding calls_from perform_row
    drive-on h = let e : n - i ≡ suc (n - suc i) = omega arith in rw (e, add-one i) (go (g i) (n - suc i) row)
      where
        go : (o : Option Call) (k : ℕ) → row_done r u after ≡ perform_row o i t before
            → performed (calls_from g k (suc i)) (suc i) u after ≡ performed (elim o [ none ↦ [] | some c ↦ c ∷ calls_from g k (suc i) ]) i t before
        go none k e = absurd (true≢false (sym h ∙ ap (λ (d : RowDone). d.readable) e))
        go (some c) k e =
            ap (λ (d : RowDone). performed (calls_from g k (suc i)) (suc i) d.tables d.answers) e ∙ performed-one c (calls_from g k (suc i)) i t before

pub drive-begins : (cells files : List ℕ) (t : Tables) (answers : List ℕ)
    → performed (calls_from (call_in cells files) (length cells / 6 - 0) 0) 0 t answers ≡ performed (calls_in cells files) 0 t answers
unfolding calls_in
drive-begins cells files t answers = let e : length cells / 6 - 0 ≡ length cells / 6 = omega arith in rw e

-- From boot

module _ (cs : List Call) (t : Tables) (before : List ℕ) where
  pub drive-after : is_accepted (boot t).answer ≡ true → drive cs t before ≡ performed cs 0 (boot t).tables before
  unfolding drive
  drive-after h = rw (h, drive)

  drive-not : is_accepted (boot t).answer ≡ false → drive cs t before ≡ driven None (boot t).tables before
  unfolding drive boot
  drive-not h = rw (drive, h) (go (shaped t) h)
    where
      booted : Bool → Done Reply
      booted b = elim b as (λ _. Done Reply) [ true ↦ done Accepted (put boot_rows t) | false ↦ done (Denied (Word 1)) t ]

      go : (b : Bool) → is_accepted (booted b).answer ≡ false → driven None t before ≡ driven None (booted b).tables before
      go true e = absurd (true≢false e)
      go false e = refl

  module _ (u : Tables) (a : Reply) (boots : done a u ≡ boot t) where
    told : is_accepted a ≡ is_accepted (boot t).answer
    told = ap (λ (d : Done Reply). is_accepted d.answer) boots

    pub drive-refused : is_accepted a ≡ false → driven None u before ≡ drive cs t before
    drive-refused h = ap (λ (d : Done Reply). driven None d.tables before) boots ∙ sym (drive-not (sym told ∙ h))

    pub drive-accepted : is_accepted a ≡ true → (d : Driven) → d ≡ performed cs 0 u before → d ≡ drive cs t before
    drive-accepted h d e = e ∙ (ap (λ (d : Done Reply). performed cs 0 d.tables before) boots ∙ sym (drive-after (sym told ∙ h)))
