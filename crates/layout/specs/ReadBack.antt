-- Tables of the published lengths, and rows that are put into them: no length changes, and whole rows are read back as they are.
use Rattle.std.specs.Prelude.{◌≡◌, Bool, true, List, [], ◌∷◌, ℕ, zero, suc, ◌+◌, ◌*◌, ◌≤◌, ◌<◌, length, leb}
use Rattle.std.proofs.Math.Path.{refl, ap}
use Rattle.std.proofs.Common.{sym, ◌∙◌, arith, eqb-true, eq-eqb}
use Rattle.std.proofs.Math.Bool.{false}
use Rattle.std.proofs.Math.Option.{Option, none}
use Rattle.std.proofs.Math.ListN.{get_or, set, length-set}
use Rattle.definition.specs.Numbers.{task_limit, object_limit, field_limit, frame_limit, counts_length, classes_length, kept_length, cache_length, ties_length, subtypes_length, objects_length, frames_length, owners_cell, tie_numbers_cell, subtype_numbers_cell, loads_cell, groups_cell, count_classes, count_kept, count_cache, count_ties, count_subtypes, count_objects, count_frames}
use Rattle.definition.specs.Lists.{rows, write_rows, stack, write_stack}
use Rattle.definition.specs.Maybe.{◌>>=◌, need}
use Rattle.definition.specs.Groups.{groups_of}
use Rattle.definition.specs.Constraints.{Tie}
use Rattle.definition.specs.Broken.{grouped}
use Rattle.definition.specs.Classes.{Base, Entry, slots, slots_in, own_slots}
use Rattle.definition.specs.Machine.{Value, empty_value, int_value, null_value, object_value, unlisted_value, ObjectRow, free, owned, Objects, Exists, Frame}
use Rattle.definition.specs.File.{File, byte, read_file, object_class}
use Rattle.definition.specs.Tables.{Tables, shaped, ClassRow, RowNumbers, row_numbers, Level, Rows, rows_of, file_at, class_at, base_of, world_of, size_of, class_row_at, put_class_row, entry_at, put_entry, tie_at, put_tie, subtype_at, put_subtype, owner_at, put_owner, object_row_at, put_object_row, number_at, level_at, frame_base, frame_in, put_frame_in, view_base, objects_of, frames_of, view_over, view, counts_of, put_numbers, put_trace, put_groups, put}
use Rattle.layout.specs.Tests.{All, From, every_true, true-every, all_more}
use Rattle.layout.specs.Places.{rows-get_d, rows-cong, stack-cong, all-stack, write_rows-length, write_stack-length}
use Rattle.layout.specs.Rows.{stack-back, stack-apart, rows_back, class-rows, entry-rows, tie-rows, subtype-rows, cell-rows}
use Rattle.layout.specs.Values.{Proper, proper-empty, proper-int, proper-null, proper-object}
use Rattle.layout.specs.ObjectRows.{used_all}
use Rattle.layout.specs.OwnedRows.{put_owner-length, put_object_row-length, owners-behind, RowProper, object-rows-back}
use Rattle.layout.specs.NumberedRows.{put_numbers-length, put_numbers-before, ties-back, subtypes-back}
use Rattle.layout.specs.TracedRows.{put_trace-length, put_trace-before, loads-back, trace-back, level_before}
use Rattle.layout.specs.GroupedRows.{is-grouped, put_groups-length, put_groups-before, groups-back}
use Rattle.layout.specs.FrameRows.{put_frame-length, FrameProper, frame-rows}
use Rattle.layout.specs.Whole.{Local, ValueSound, RowSound, Framed, First, ClassSound, Classes, Whole}

-- The published lengths

pub record Lengths (t : Tables) : Type 0 where
  pub counts : length t.counts ≡ counts_length
  pub classes : length t.classes ≡ classes_length
  pub kept : length t.kept ≡ kept_length
  pub cache : length t.cache ≡ cache_length
  pub ties : length t.ties ≡ ties_length
  pub subtypes : length t.subtypes ≡ subtypes_length
  pub objects : length t.objects ≡ objects_length
  pub frames : length t.frames ≡ frames_length

pub shaped-true : (t : Tables) → shaped t ≡ true → Lengths t
unfolding shaped
shaped-true t h =
    let p = every_true _ h in
    record {
      counts = eqb-true _ _ p.0;
      classes = eqb-true _ _ p.1.0;
      kept = eqb-true _ _ p.1.1.0;
      cache = eqb-true _ _ p.1.1.1.0;
      ties = eqb-true _ _ p.1.1.1.1.0;
      subtypes = eqb-true _ _ p.1.1.1.1.1.0;
      objects = eqb-true _ _ p.1.1.1.1.1.1.0;
      frames = eqb-true _ _ p.1.1.1.1.1.1.1.0;
    }

pub true-shaped : (t : Tables) → Lengths t → shaped t ≡ true
unfolding shaped
true-shaped t l =
    true-every _ (
      eq-eqb _ _ l.counts,
      (
        eq-eqb _ _ l.classes,
        (
          eq-eqb _ _ l.kept,
          (
            eq-eqb _ _ l.cache,
            (eq-eqb _ _ l.ties, (eq-eqb _ _ l.subtypes, (eq-eqb _ _ l.objects, (eq-eqb _ _ l.frames, tt)))),
          ),
        ),
      ),
    )

-- what is put changes no length
pub put-lengths : (r : Rows) (t : Tables) → Lengths t → Lengths (put r t)
unfolding put put_frame_in
put-lengths r t l = record {
  counts =
      put_groups-length r.ties r.numbers.ties (put_trace r.trace (put_numbers r.numbers (write_rows put_owner r.objects 0 (write_rows set (counts_of r) 0 t.counts))))
      ∙ (put_trace-length r.trace (put_numbers r.numbers (write_rows put_owner r.objects 0 (write_rows set (counts_of r) 0 t.counts)))
      ∙ (put_numbers-length r.numbers (write_rows put_owner r.objects 0 (write_rows set (counts_of r) 0 t.counts))
      ∙ (write_rows-length put_owner put_owner-length r.objects 0 (write_rows set (counts_of r) 0 t.counts) ∙ (write_rows-length set length-set (counts_of r) 0 t.counts ∙ l.counts))));
  classes = write_rows-length put_class_row class-rows.long r.classes 0 t.classes ∙ l.classes;
  kept = write_rows-length set length-set r.kept 0 t.kept ∙ l.kept;
  cache = write_rows-length put_entry entry-rows.long r.cache 0 t.cache ∙ l.cache;
  ties = write_rows-length put_tie tie-rows.long r.ties 0 t.ties ∙ l.ties;
  subtypes = write_rows-length put_subtype subtype-rows.long r.subtypes 0 t.subtypes ∙ l.subtypes;
  objects = write_rows-length put_object_row put_object_row-length r.objects 0 t.objects ∙ l.objects;
  frames =
      write_stack-length (put_frame_in 1) (λ s i f. put_frame-length s (frame_base 1 i) f) r.report (write_stack (put_frame_in 0) r.quote t.frames)
      ∙ (write_stack-length (put_frame_in 0) (λ s i f. put_frame-length s (frame_base 0 i) f) r.quote t.frames ∙ l.frames);
}

-- A class has at most 16 fields; class 0 has no file and none

from_at : (b : Base) (bs : List ℕ) (j : ℕ) (ks : List ClassRow) → From (ClassSound b bs) j ks → (i : ℕ) → i < length ks → size_of b (j + i) ≤ 16
from_at b bs j [] h i l = absurd (omega arith)
from_at b bs j (k ∷ ks) h zero l = let e : j + 0 ≡ j = omega arith in rw e h.0.size
from_at b bs j (k ∷ ks) h (suc i) l = let e : j + suc i ≡ suc j + i = omega arith in rw e (from_at b bs (suc j) ks h.1 i (omega arith))

pub empty-file : read_file [] ≡ none
unfolding read_file byte ◌>>=◌ need
empty-file = refl

pub no-file : (bs : List ℕ) (k : ClassRow) → First k → file_at bs k ≡ none
unfolding file_at
no-file bs k h = rw (h.start, h.size) (none_read (leb 0 (length bs)))
  where
    none_read : (u : Bool) → ◌≡◌ {A = Option File} (need u >>= λ _. read_file []) none
    none_read true = unfold need ◌>>=◌ in empty-file
    none_read false = unfold need ◌>>=◌ in refl

pub object-class : (bs : List ℕ) (k : ClassRow) → First k → class_at bs k ≡ object_class
unfolding class_at
object-class bs k h = rw (no-file bs k h, class_at) refl

size-zero : (es : List Entry) (bs : List ℕ) (k : ClassRow) (ks : List ClassRow) → First k → size_of (base_of (k ∷ ks) bs es) 0 ≡ 0
unfolding slots slots_in own_slots
size-zero es bs k ks h = rw (object-class bs k h) refl

pub size_small : (es : List Entry) (bs : List ℕ) (ks : List ClassRow) → Classes (base_of ks bs es) bs ks → (c : ℕ) → c < length ks
    → size_of (base_of ks bs es) c ≤ 16
size_small es bs [] h c l = absurd (omega arith)
size_small es bs (k ∷ ks) h zero l = omega (arith, size-zero es bs k ks h.0)
size_small es bs (k ∷ ks) h (suc c) l = let e : suc c ≡ 1 + c = omega arith in rw e (from_at (base_of (k ∷ ks) bs es) bs 1 ks h.1 c (omega arith))

-- Values that are listed

pub value-proper : (X : ℕ → Type 0) (v : Value) → ValueSound X v → Proper v
value-proper X empty_value h = absurd h
value-proper X (int_value n) h = proper-int n
value-proper X null_value h = proper-null
value-proper X (object_value o) h = proper-object o
value-proper X (unlisted_value k b) h = absurd h

pub local-proper : (X : ℕ → Type 0) (v : Value) → Local X v → Proper v
local-proper X empty_value h = proper-empty
local-proper X (int_value n) h = proper-int n
local-proper X null_value h = proper-null
local-proper X (object_value o) h = proper-object o
local-proper X (unlisted_value k b) h = absurd h

pub frame-proper : (n : ℕ) (X : ℕ → Type 0) (f : Frame) → Framed n X f → FrameProper f
frame-proper n X f h = record {
  few = h.depth;
  eight = h.eight;
  operands = all_more (value-proper X) f.operands h.operands;
  locals = all_more (local-proper X) f.locals h.locals;
}

-- Reading what was put

-- the eight counts, with owners, numbers, trace and groups written behind them
pub counts-put : (r : Rows) (c : List ℕ) → length c ≡ counts_length → (j : ℕ) → j < owners_cell
    → get_or (put_groups r.ties r.numbers.ties (put_trace r.trace (put_numbers r.numbers (write_rows put_owner r.objects 0 (write_rows set (counts_of r) 0 c))))) j 0 ≡ get_or (counts_of r) j 0
unfolding counts_of
counts-put r c e j l =
    let u : List ℕ = write_rows set (counts_of r) 0 c in
    let z : 0 + j ≡ j = omega arith in
    put_groups-before r.ties r.numbers.ties (put_trace r.trace (put_numbers r.numbers (write_rows put_owner r.objects 0 u))) j (omega arith)
    ∙ (put_trace-before r.trace (put_numbers r.numbers (write_rows put_owner r.objects 0 u)) j (omega arith)
    ∙ (put_numbers-before r.numbers (write_rows put_owner r.objects 0 u) j (omega arith)
    ∙ (owners-behind r.objects 0 u j l
    ∙ (sym (rw z at (rows-get_d (λ i. get_or u i 0) 8 0 j 0 l)) ∙ ap (λ (z : List ℕ). get_or z j 0) (rows_back cell-rows (counts_of r) c (omega arith))))))

objects-put : (b : Base) (n : ℕ) (X : ℕ → Type 0) (os : Objects) (ts : List Tie) (ns : RowNumbers) (ls : List Level) (c t : List ℕ) → length c ≡ counts_length → length t ≡ objects_length → length os ≤ object_limit
    → ((c : ℕ) → c < n → size_of b c ≤ field_limit) → All (RowSound b n X) os
    → rows (object_row_at b (put_groups ts ns.ties (put_trace ls (put_numbers ns (write_rows put_owner os 0 c)))) (write_rows put_object_row os 0 t)) (length os) 0 ≡ os
unfolding object_row_at owner_at
objects-put b n X os ts ns ls c t d e l small h =
    let u : List ℕ = write_rows put_owner os 0 c in
    rows-cong (object_row_at b (put_groups ts ns.ties (put_trace ls (put_numbers ns u))) (write_rows put_object_row os 0 t)) (object_row_at b u (write_rows put_object_row os 0 t)) (length os) 0
    (λ o a k. rw (put_groups-before ts ns.ties (put_trace ls (put_numbers ns u)) (owners_cell + o) (omega arith), put_trace-before ls (put_numbers ns u) (owners_cell + o) (omega arith), put_numbers-before ns u (owners_cell + o) (omega arith)))
    ∙ object-rows-back b os c t (omega arith) (omega arith) (all_more proper os h)
  where
    proper : (x : ObjectRow) → RowSound b n X x → RowProper b x
    proper free p = tt
    proper (owned k x) p = record {
      size = p.1.size ∙ sym (used_all b x.class (small x.class p.1.class));
      values = all_more (value-proper X) x.values p.1.values;
    }

-- a task's frames

frames-put : (k : ℕ) (fs : List Frame) (t : List ℕ) → k < task_limit → length t ≡ frames_length → length fs ≤ frame_limit → All FrameProper fs
    → stack (frame_in (write_stack (put_frame_in k) fs t) k) (length fs) ≡ fs
unfolding frame_in put_frame_in
frames-put k fs t two e l h = stack-back frame-rows (k * frame_limit) fs t (omega arith) h

-- the report's rows lie behind the quote's
frames-behind : (n : ℕ) (gs : List Frame) (t : List ℕ) → n ≤ frame_limit → length gs ≤ frame_limit → All FrameProper gs → All FrameProper (stack (frame_in t 0) n)
    → stack (frame_in (write_stack (put_frame_in 1) gs t) 0) n ≡ stack (frame_in t 0) n
unfolding frame_in put_frame_in
frames-behind n gs t l m h q = stack-cong (frame_in (write_stack (put_frame_in 1) gs t) 0) (frame_in t 0) n (λ i k.
    stack-apart frame-rows (1 * frame_limit) gs (0 * frame_limit + i) t (λ j b e. omega arith) h (all-stack FrameProper (frame_in t 0) n q i k))

module _ (r : Rows) (t : Tables) (l : Lengths t) (w : Whole r) where
  abbrev counted : (j : ℕ) → j < owners_cell
      → get_or (put_groups r.ties r.numbers.ties (put_trace r.trace (put_numbers r.numbers (write_rows put_owner r.objects 0 (write_rows set (counts_of r) 0 t.counts))))) j 0 ≡ get_or (counts_of r) j 0
  counted = counts-put r t.counts l.counts

  classes-read : rows (class_row_at (write_rows put_class_row r.classes 0 t.classes)) (length r.classes) 0 ≡ r.classes
  classes-read = rows_back class-rows r.classes t.classes (omega (arith, w.limits.classes, l.classes))

  kept_read : rows (λ i. get_or (write_rows set r.kept 0 t.kept) i 0) (length r.kept) 0 ≡ r.kept
  kept_read = rows_back cell-rows r.kept t.kept (omega (arith, w.limits.kept, l.kept))

  cache-read : rows (entry_at (write_rows put_entry r.cache 0 t.cache)) (length r.cache) 0 ≡ r.cache
  cache-read = rows_back entry-rows r.cache t.cache (omega (arith, w.limits.cache, l.cache))

  ties-read : rows (tie_at (write_rows put_tie r.ties 0 t.ties)) (length r.ties) 0 ≡ r.ties
  ties-read = rows_back tie-rows r.ties t.ties (omega (arith, w.limits.ties, l.ties))

  subtypes-read : rows (subtype_at (write_rows put_subtype r.subtypes 0 t.subtypes)) (length r.subtypes) 0 ≡ r.subtypes
  subtypes-read = rows_back subtype-rows r.subtypes t.subtypes (omega (arith, w.limits.subtypes, l.subtypes))

  objects-read : rows (object_row_at (world_of r).base (put r t).counts (put r t).objects) (length r.objects) 0 ≡ r.objects
  unfolding put
  objects-read =
      objects-put (world_of r).base (length r.classes) (Exists r.objects) r.objects r.ties r.numbers r.trace (write_rows set (counts_of r) 0 t.counts) t.objects
      (write_rows-length set length-set (counts_of r) 0 t.counts ∙ l.counts) l.objects w.limits.objects
      (size_small r.cache r.kept r.classes w.classes) w.objects

  abbrev numberless : List ℕ
  numberless = write_rows put_owner r.objects 0 (write_rows set (counts_of r) 0 t.counts)

  numberless-length : length numberless ≡ counts_length
  numberless-length =
      write_rows-length put_owner put_owner-length r.objects 0 (write_rows set (counts_of r) 0 t.counts) ∙ (write_rows-length set length-set (counts_of r) 0 t.counts ∙ l.counts)

  abbrev traceless : List ℕ
  traceless = put_numbers r.numbers numberless

  traceless-length : length traceless ≡ counts_length
  traceless-length = put_numbers-length r.numbers numberless ∙ numberless-length

  abbrev groupless : List ℕ
  groupless = put_trace r.trace traceless

  groupless-length : length groupless ≡ counts_length
  groupless-length = put_trace-length r.trace traceless ∙ traceless-length

  abbrev all_written : List ℕ
  all_written = put_groups r.ties r.numbers.ties groupless

  trace-count : get_or all_written loads_cell 0 ≡ length r.trace
  trace-count = put_groups-before r.ties r.numbers.ties groupless loads_cell (omega arith) ∙ loads-back r.trace traceless (omega (arith, traceless-length))

  trace-read : stack (level_at all_written) (length r.trace) ≡ r.trace
  trace-read =
      stack-cong (level_at all_written) (level_at groupless) (length r.trace)
      (λ i k. level_before groupless all_written groups_cell (λ j m. put_groups-before r.ties r.numbers.ties groupless j m) i (omega (arith, k, w.limits.trace)))
      ∙ trace-back r.trace traceless (omega (arith, traceless-length, w.limits.trace))

  numbers-read : (s n : ℕ) → s + n ≤ loads_cell → rows (number_at s all_written) n 0 ≡ rows (number_at s traceless) n 0
  unfolding number_at
  numbers-read s n h =
      rows-cong (number_at s all_written) (number_at s traceless) n 0
      (λ m a k. put_groups-before r.ties r.numbers.ties groupless (s + m) (omega arith) ∙ put_trace-before r.trace traceless (s + m) (omega arith))

  tie-numbers-read : rows (number_at tie_numbers_cell all_written) (length r.ties) 0 ≡ r.numbers.ties
  tie-numbers-read = numbers-read tie_numbers_cell (length r.ties) (omega (arith, w.limits.ties)) ∙ rw (← w.numbers.ties) (ties-back r.numbers numberless (omega (arith, numberless-length, w.numbers.ties, w.limits.ties)))

  subtype-numbers-read : rows (number_at subtype_numbers_cell all_written) (length r.subtypes) 0 ≡ r.numbers.subtypes
  subtype-numbers-read =
      numbers-read subtype_numbers_cell (length r.subtypes) (omega (arith, w.limits.subtypes))
      ∙ rw (← w.numbers.subtypes) (subtypes-back r.numbers numberless (omega (arith, w.numbers.ties, w.limits.ties))
      (omega (arith, numberless-length, w.numbers.subtypes, w.limits.subtypes)))

  -- and groups are those of the rows
  groups-read : rows (number_at groups_cell all_written) (length r.ties) 0 ≡ groups_of r.ties r.numbers.ties
  groups-read = groups-back r.ties r.numbers.ties groupless (omega (arith, groupless-length, w.limits.ties))

  abbrev quoted : List ℕ
  quoted = write_stack (put_frame_in 0) r.quote t.frames

  quoted-length : length quoted ≡ frames_length
  unfolding put_frame_in
  quoted-length = write_stack-length (put_frame_in 0) (λ s i f. put_frame-length s (frame_base 0 i) f) r.quote t.frames ∙ l.frames

  quote-proper : All FrameProper r.quote
  quote-proper = all_more (frame-proper _ _) r.quote w.quote

  report-proper : All FrameProper r.report
  report-proper = all_more (frame-proper _ _) r.report w.report

  quote-read : stack (frame_in (write_stack (put_frame_in 1) r.report quoted) 0) (length r.quote) ≡ r.quote
  quote-read =
      let e : stack (frame_in quoted 0) (length r.quote) ≡ r.quote = frames-put 0 r.quote t.frames (omega arith) l.frames w.limits.quote quote-proper in
      frames-behind (length r.quote) r.report quoted w.limits.quote w.limits.report report-proper (rw e quote-proper) ∙ e

  report-read : stack (frame_in (write_stack (put_frame_in 1) r.report quoted) 1) (length r.report) ≡ r.report
  report-read = frames-put 1 r.report quoted (omega arith) quoted-length w.limits.report report-proper

  base_read : view_base (put r t) ≡ (world_of r).base
  unfolding put counts_of
  base_read =
      (λ i. base_of
      (rows (class_row_at (put r t).classes) (counted count_classes (omega arith) i) 0)
      (rows (λ j. get_or (put r t).kept j 0) (counted count_kept (omega arith) i) 0)
      (rows (entry_at (put r t).cache) (counted count_cache (omega arith) i) 0))
      ∙ (λ i. base_of (classes-read i) (kept_read i) (cache-read i))

  -- what was put is read back
  pub view-put : view (put r t) ≡ r
  unfolding view view_over objects_of frames_of put counts_of
  view-put =
      (λ i. rows_of
      (rows (class_row_at (put r t).classes) (counted count_classes (omega arith) i) 0)
      (rows (λ j. get_or (put r t).kept j 0) (counted count_kept (omega arith) i) 0)
      (rows (entry_at (put r t).cache) (counted count_cache (omega arith) i) 0)
      (rows (tie_at (put r t).ties) (counted count_ties (omega arith) i) 0)
      (rows (subtype_at (put r t).subtypes) (counted count_subtypes (omega arith) i) 0)
      (rows (object_row_at (base_read i) (put r t).counts (put r t).objects) (counted count_objects (omega arith) i) 0)
      (stack (frame_in (put r t).frames 0) (counted count_frames (omega arith) i))
      (stack (frame_in (put r t).frames 1) (counted (count_frames + 1) (omega arith) i))
      (row_numbers
      (rows (number_at tie_numbers_cell (put r t).counts) (counted count_ties (omega arith) i) 0)
      (rows (number_at subtype_numbers_cell (put r t).counts) (counted count_subtypes (omega arith) i) 0))
      (stack (level_at (put r t).counts) (trace-count i)))
      ∙ (λ i. rows_of (classes-read i) (kept_read i) (cache-read i) (ties-read i) (subtypes-read i) (objects-read i) (quote-read i) (report-read i)
      (row_numbers (tie-numbers-read i) (subtype-numbers-read i)) (trace-read i))

  -- what was put has the right groups
  pub put-grouped : grouped (put r t) ≡ true
  unfolding put counts_of
  put-grouped =
      is-grouped (put r t)
      ((λ i. rows (number_at groups_cell (put r t).counts) (counted count_ties (omega arith) i) 0)
      ∙ (groups-read ∙ (unfold view view_over in ap (λ (x : Rows). groups_of x.ties x.numbers.ties) (sym view-put))))
