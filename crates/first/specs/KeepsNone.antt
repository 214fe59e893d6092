-- The first document's machine reads files of version 1 alone: whatever call it is given, tables that keep no file of a later version are left so.
use Rattle.std.specs.Prelude.{◌≡◌, Bool, ◌&&◌, List, [], ◌∷◌, ◌++◌, ℕ, zero, suc, ◌+◌, ◌<◌, ◌≤◌, take, drop, leb}
use Rattle.std.proofs.Math.Path.{refl}
use Rattle.std.proofs.Common.{sym, ◌∙◌, subst₂, arith, length-append, length-drop, drop_at}
use Rattle.std.proofs.Math.Bool.{true, false}
use Rattle.std.proofs.lemmas.Bool.{false≢true}
use Rattle.std.proofs.Math.ListN.{length, get_or, set}
use Rattle.std.proofs.lemmas.List.{length-map, take-append-le, drop-append-le}
use Rattle.std.proofs.Math.Seq.{take-length}
use borrow.Author.Tests.{leb-true, ltb-true, eqb-true, not-false}
use Rattle.definition.specs.declared.Refusal.TheVariants.{Word}
use Rattle.definition.specs.declared.Answer.{Answer}
use Rattle.definition.specs.declared.Answer.TheVariants.{Idle, Ran, Finished, Refused}
use Rattle.definition.specs.declared.Reply.TheVariants.{Accepted, Denied}
use Rattle.definition.specs.Numbers.{word_broken, word_unknown, class_limit, kept_limit, run_limit, count_classes, count_kept, classes_length, kept_length}
use Rattle.definition.specs.Lists.{all_from, is_some, rows, write_rows}
use Rattle.definition.specs.Answers.{Result, refused, ok}
use Rattle.definition.specs.Classes.{Base, Class}
use Rattle.definition.specs.Constraints.{World}
use Rattle.definition.specs.File.{class_of}
use Rattle.definition.specs.Tables.{ClassRow, class_row, class_row_at, put_class_row, class_rows_of, kept_of}
use Rattle.definition.specs.Calls.{done, run_from, go_on}
use Rattle.laws.specs.Options.{bind-some, need-true}
use Rattle.laws.specs.Results.{bind_ok, need-ok, take-ok}
use Rattle.laws.specs.Wrapped.{Ok, then}
use Rattle.layout.specs.Tests.{all_both, every_true, is-some}
use Rattle.layout.specs.Rows.{rows_back, cell-rows, class-rows}
use Rattle.definition.specs.First.Verifier.{first_define}
use Rattle.definition.specs.First.Tables.{FirstTables, first_counts_length, first_shaped, first_file_at, first_class_at, FirstRows, first_world_of, first_view_base, first_view_over, first_view, first_counts_of, first_put}
use Rattle.definition.specs.First.Broken.{first_class_fits, first_classes_fit, first_sound, first_whole, first_broken}
use Rattle.definition.specs.First.Calls.{FirstGiven, FirstReply, FirstDone, first_boot_rows, first_define_rows, first_record_rows, first_start_rows, first_drop_rows, first_carried, first_wrap, first_boot, first_step_tables, first_run, FirstRowCall, first_row_define, first_row_record, first_row_start, first_row_drop, first_on_row_call, FirstCall, first_call_boot, first_call_rows, first_call_step, first_call_run, first_perform}
use Rattle.first.specs.SameFiles.{later_file, read-early}
use Rattle.first.specs.SameBases.{Early, later_row, object-early}
use Rattle.first.specs.Carries.{EarlyTables, carrying}
use Rattle.first.specs.SameCalls.{SameFiles, count-after, early-after, step-early}

-- Classes and kept files that were put are read back, where they have room

module _ (u : FirstTables) (r : FirstRows) (s : first_shaped u ≡ true) where
  lengths : (length u.counts ≡ first_counts_length) × (length u.classes ≡ classes_length) × (length u.kept ≡ kept_length)
  unfolding first_shaped
  lengths = let p = every_true _ s in (eqb-true _ _ p.0, eqb-true _ _ p.1.0, eqb-true _ _ p.1.1.0)

  classes-put : length r.classes ≤ class_limit → class_rows_of (first_put r u) ≡ r.classes
  unfolding first_put first_counts_of
  classes-put l =
      let many : get_or (write_rows set (first_counts_of r) 0 u.counts) count_classes 0 ≡ length r.classes = count-after (first_counts_of r) u.counts count_classes refl lengths.0 (omega arith) in
      (λ i. rows (class_row_at (write_rows put_class_row r.classes 0 u.classes)) (many i) 0) ∙ rows_back class-rows r.classes u.classes (omega (arith, lengths.1))

  kept_put : length r.kept ≤ kept_limit → kept_of (first_put r u) ≡ r.kept
  unfolding first_put first_counts_of
  kept_put l =
      let many : get_or (write_rows set (first_counts_of r) 0 u.counts) count_kept 0 ≡ length r.kept = count-after (first_counts_of r) u.counts count_kept refl lengths.0 (omega arith) in
      (λ i. rows (λ j. get_or (write_rows set r.kept 0 u.kept) j 0) (many i) 0) ∙ rows_back cell-rows r.kept u.kept (omega (arith, lengths.2))

  early-put : length r.classes ≤ class_limit → length r.kept ≤ kept_limit → Early r.kept r.classes → EarlyTables (first_put r u)
  early-put c k x = subst₂ (λ y z. Early y z) (sym (kept_put k)) (sym (classes-put c)) x

-- A file is read as it was, with others behind it

row_more : (bs cs : List ℕ) (k : ClassRow) → k.start + k.size ≤ length bs → take k.size (drop k.start (bs ++ cs)) ≡ take k.size (drop k.start bs)
row_more bs cs k l =
    let z : k.size ≤ length (drop k.start bs) = omega (arith, length-drop k.start bs) in
    rw (drop-append-le k.start bs cs (omega arith), take-append-le k.size (drop k.start bs) cs z) refl

file-early : (bs cs : List ℕ) (k : ClassRow) → is_some (first_file_at bs k) ≡ true → later_row (bs ++ cs) k ≡ false
unfolding first_file_at later_row
file-early bs cs k h =
    let f = is-some _ h in
    let a = bind-some _ _ f.1 in
    rw (row_more bs cs k (leb-true (k.start + k.size) (length bs) (need-true _ a.1))) (read-early (take k.size (drop k.start bs)) f.0 a.2)

last-early : (bs cs : List ℕ) (l : ℕ) → later_file cs ≡ false → later_row (bs ++ cs) (class_row l (length bs) (length cs)) ≡ false
unfolding later_row
last-early bs cs l h = rw (drop_at bs cs (length bs) refl, take-length cs) h

from_more : (b : Base) (bs cs : List ℕ) (c : ℕ) (ks : List ClassRow) → all_from (first_class_fits b bs) c ks ≡ true → Early (bs ++ cs) ks
unfolding all_from first_class_fits
from_more b bs cs c [] h = tt
from_more b bs cs c (k ∷ ks) h = go (first_class_fits b bs c k) refl h (from_more b bs cs (suc c) ks)
  where
    go : (t : Bool) → first_class_fits b bs c k ≡ t → (elim t as (λ _. Bool) [ true ↦ all_from (first_class_fits b bs) (suc c) ks | false ↦ false ]) ≡ true
        → (all_from (first_class_fits b bs) (suc c) ks ≡ true → Early (bs ++ cs) ks) → Early (bs ++ cs) (k ∷ ks)
    go true e q ih = (file-early bs cs k (every_true _ e).1.0, ih q)
    go false e q ih = absurd (false≢true q)

rows_more : (b : Base) (bs cs : List ℕ) (ks : List ClassRow) → first_classes_fit b bs ks ≡ true → Early (bs ++ cs) ks
unfolding first_classes_fit
rows_more b bs cs [] h = tt
rows_more b bs cs (k ∷ ks) h = let p = every_true _ h in (object-early (bs ++ cs) k p.0, from_more b bs cs 1 ks p.1.0)

-- Calls on rows

-- a define that is accepted adds a file of version 1, within the limits
pub record Added (r q : FirstRows) : Type 0 where
  pub classes : length q.classes ≤ class_limit
  pub kept : length q.kept ≤ kept_limit
  pub early : first_classes_fit (first_world_of r).base r.kept r.classes ≡ true → Early q.kept q.classes

define-room : (room : Bool) (k : Class) (w v : World) → first_define room k w ≡ ok v → (room ≡ true) × (length w.base.classes < class_limit)
unfolding first_define
define-room room k w v e =
    let a = bind_ok _ _ e in
    let b = bind_ok _ _ a.2 in
    let c = bind_ok _ _ b.2 in
    let d = bind_ok _ _ c.2 in
    let f = bind_ok _ _ d.2 in
    let p = every_true _ (need-ok _ _ f.1) in
    (p.0, ltb-true _ _ p.1.0)

define-added : (l : ℕ) (bs : List ℕ) (r : FirstRows) → Ok (first_define_rows l bs r) (λ g. Added r g.rows)
unfolding first_define_rows
define-added l bs r = then A _ _ (λ _ _. then A _ _ (λ f e. then A _ _ (λ v d.
    let p = define-room (leb (length r.kept + length bs) kept_limit) (class_of l f) (first_world_of r) v d in
    record {
      classes = omega (arith, length-append r.classes (class_row l (length r.kept) (length bs) ∷ []), p.1, length-map r.classes (first_class_at r.kept));
      kept = omega (arith, length-append r.kept bs, leb-true (length r.kept + length bs) kept_limit p.0);
      early = λ h. all_both _ r.classes (class_row l (length r.kept) (length bs) ∷ []) (rows_more (first_world_of r).base r.kept bs r.classes h)
          (last-early r.kept bs l (read-early bs f (take-ok _ _ e)), tt);
    })))
  where
    A : FirstGiven FirstReply → Type 0
    A g = Added r g.rows

record-files : (l n c : ℕ) (r : FirstRows) → Ok (first_record_rows l n c r) (SameFiles r)
unfolding first_record_rows
record-files l n c r = then (SameFiles r) _ _ (λ _ _. (refl, refl))

start-files : (k l n m v : ℕ) (r : FirstRows) → Ok (first_start_rows k l n m v r) (SameFiles r)
unfolding first_start_rows
start-files k l n m v r = then (SameFiles r) _ _ (λ _ _. then (SameFiles r) _ _ (λ _ _. (refl, refl)))

drop-files : (k : ℕ) (r : FirstRows) → Ok (first_drop_rows k r) (SameFiles r)
unfolding first_drop_rows
drop-files k r = then (SameFiles r) _ _ (λ _ _. (refl, refl))

-- On tables

module _ (u : FirstTables) (x : EarlyTables u) where
  unbroken-shaped : first_broken u ≡ false → first_shaped u ≡ true
  unfolding first_broken first_whole
  unbroken-shaped e = (every_true _ (not-false _ e)).0

  unbroken-fits : first_broken u ≡ false → first_classes_fit (first_view_base u) (kept_of u) (class_rows_of u) ≡ true
  unfolding first_broken first_whole first_sound first_view first_view_over
  unbroken-fits e = (every_true _ (every_true _ (not-false _ e)).1.1.0).0

  wrap-early : (f : FirstRows → Result (FirstGiven FirstReply)) → (first_broken u ≡ false → Ok (f (first_view u)) (λ g. EarlyTables (first_put g.rows u))) → EarlyTables (first_wrap Denied f u).tables
  unfolding first_wrap first_carried
  wrap-early f h = go (first_broken u) refl
    where
      put : (o : Result (FirstGiven FirstReply)) → Ok o (λ g. EarlyTables (first_put g.rows u)) → EarlyTables (first_carried Denied u o).tables
      put (refused w) k = x
      put (ok g) k = k

      go : (b : Bool) → first_broken u ≡ b → EarlyTables (elim b as (λ _. FirstDone FirstReply) [ true ↦ done (Denied (Word word_broken)) u | false ↦ first_carried Denied u (f (first_view u)) ]).tables
      go true e = x
      go false e = put (f (first_view u)) (h e)

  ok-more : {A : Type 0} (P Q : A → Type 0) → ((a : A) → P a → Q a) → (o : Result A) → Ok o P → Ok o Q
  ok-more P Q f (refused w) h = tt
  ok-more P Q f (ok a) h = f a h

  same-early : (f : FirstRows → Result (FirstGiven FirstReply)) → Ok (f (first_view u)) (SameFiles (first_view u)) → EarlyTables (first_wrap Denied f u).tables
  unfolding first_view first_view_over
  same-early f h = wrap-early f (λ b. ok-more _ _ (λ g s. early-after u g.rows (lengths u g.rows (unbroken-shaped b)).0 s.0 s.1 x) (f (first_view u)) h)

  row-early : (c : FirstRowCall) → EarlyTables (first_wrap Denied (first_on_row_call c) u).tables
  unfolding first_view first_view_over
  row-early (first_row_define l bs) = wrap-early (first_define_rows l bs) (λ b. ok-more _ _
      (λ g a. early-put u g.rows (unbroken-shaped b) a.classes a.kept (a.early (unbroken-fits b))) (first_define_rows l bs (first_view u)) (define-added l bs (first_view u)))
  row-early (first_row_record l n c) = same-early (first_record_rows l n c) (record-files l n c (first_view u))
  row-early (first_row_start k l n m v) = same-early (first_start_rows k l n m v) (start-files k l n m v (first_view u))
  row-early (first_row_drop k) = same-early (first_drop_rows k) (drop-files k (first_view u))

  boot-early : EarlyTables (first_boot u).tables
  unfolding first_boot later_row later_file
  boot-early = go (first_shaped u) refl
    where
      go : (b : Bool) → first_shaped u ≡ b → EarlyTables (elim b as (λ _. FirstDone FirstReply) [ true ↦ done Accepted (first_put first_boot_rows u) | false ↦ done (Denied (Word word_broken)) u ]).tables
      go true s = early-put u first_boot_rows s (omega arith) (omega arith) (refl, tt)
      go false s = x

-- a boot that is accepted leaves none, whatever the tables held
pub booted-early : (u : FirstTables) → (first_boot u).answer ≡ Accepted → EarlyTables (first_boot u).tables
unfolding first_boot later_row later_file
booted-early u = go (first_shaped u) refl
  where
    go : (b : Bool) → first_shaped u ≡ b → (elim b as (λ _. FirstDone FirstReply) [ true ↦ done Accepted (first_put first_boot_rows u) | false ↦ done (Denied (Word word_broken)) u ]).answer ≡ Accepted
        → EarlyTables (elim b as (λ _. FirstDone FirstReply) [ true ↦ done Accepted (first_put first_boot_rows u) | false ↦ done (Denied (Word word_broken)) u ]).tables
    go true s e = early-put u first_boot_rows s (omega arith) (omega arith) (refl, tt)
    go false s e = let z : ◌≡◌ {A = ℕ} 0 1 = cc in absurd (omega arith)

one-early : (u : FirstTables) → EarlyTables u → EarlyTables (first_step_tables u).tables
one-early u x = step-early u _ (carrying u) x

run-early : (n k : ℕ) (a : Answer) (u : FirstTables) → EarlyTables u → EarlyTables (run_from first_step_tables n k a u).tables
unfolding run_from
run-early zero k a u x = x
run-early (suc n) k a u x = go (first_step_tables u).answer (one-early u x) (λ b y. run-early n (suc k) b (first_step_tables u).tables y)
  where
    go : (b : Answer) → EarlyTables (first_step_tables u).tables → ((c : Answer) → EarlyTables (first_step_tables u).tables → EarlyTables (run_from first_step_tables n (suc k) c (first_step_tables u).tables).tables)
        → EarlyTables (go_on (run_from first_step_tables n) k b (first_step_tables u).tables).tables
    go Idle y more = y
    go (Ran j) y more = more (Ran j) y
    go (Finished j m) y more = y
    go (Refused w) y more = y

-- any call of the first document's machine, of a file of a later version too, which it refuses
pub keeps-early : (c : FirstCall) (u : FirstTables) → EarlyTables u → EarlyTables (first_perform c u).tables
unfolding first_perform first_run
keeps-early first_call_boot u x = boot-early u x
keeps-early (first_call_rows c) u x = row-early u x c
keeps-early first_call_step u x = one-early u x
keeps-early (first_call_run n) u x = go (first_broken u) (leb 1 n && leb n run_limit)
  where
    go : (b c : Bool) → EarlyTables (elim b as (λ _. FirstDone FirstReply) [
      | true ↦ done (Denied (Word word_broken)) u
      | false ↦ elim c as (λ _. FirstDone FirstReply) [ true ↦ run_from first_step_tables n 0 Idle u | false ↦ done (Denied (Word word_unknown)) u ]
    ]).tables
    go true c = x
    go false true = run-early n 0 Idle u x
    go false false = x
