-- Rows that fill a table: as they were read, with others behind them, or replaced. Rows read off tables with the right groups and put back change nothing. The
-- classes' fields may be read off any base: the laws ask nothing of it.
use Rattle.std.specs.Prelude.{◌≡◌, true, length, get_or, set}
use Rattle.std.proofs.Math.Path.{refl, ap}
use Rattle.std.proofs.Common.{sym, ◌∙◌, arith, length-append, length-set}
use mathlib.Core.List.{List, [], ◌∷◌, ◌++◌}
use Prim.Native.Nat.{ℕ, zero, suc, ◌+◌, ◌<◌, ◌≤◌}
use Rattle.std.proofs.Math.Seq.{get_or-set_other}
use Rattle.definition.specs.Numbers.{owners_cell, tie_numbers_cell, subtype_numbers_cell, loads_cell, trace_limit}
use Rattle.definition.specs.Lists.{rows, write_rows, stack, write_stack}
use Rattle.definition.specs.Classes.{Base}
use Rattle.definition.specs.Constraints.{Tie, Subtype}
use Rattle.definition.specs.Machine.{Value, Object, Objects, unused, made, rewritten, changed, Frame}
use Rattle.definition.specs.Sweeping.{swept_from}
use Rattle.definition.specs.Tables.{Tables, tables, RowNumbers, row_numbers, Level, Rows, put_class_row, put_entry, put_tie, put_subtype, used_fields, object_at, put_object, put_field, owned_by, owner_at, put_owner, object_row_at, put_object_row, number_at, put_number, level_at, frame_in, put_frame_in, class_rows_of, kept_of, cache_of, ties_of, subtypes_of, numbers_of, trace_of, view_base, objects_of, frames_of, view_over, view, counts_of, put_numbers, put_trace, put_groups, put}
use Rattle.definition.specs.Broken.{grouped}
use Rattle.layout.specs.Places.{rows-length, stack-length, write_stack-same, written-set}
use Rattle.layout.specs.Rows.{RowLaws, Anything, rows-kept, rows_more, row_more, class-rows, entry-rows, tie-rows, subtype-rows, cell-rows}
use Rattle.layout.specs.ObjectRows.{with_field, object-field}
use Rattle.layout.specs.OwnedRows.{SameOwners, owners-set, owners-past, rows_with, made-count, changed-length, swept-length, rows-swept, rows_same, owners-same, rows_made, owners-made, rows-changed, owners-changed}
use Rattle.layout.specs.NumberedRows.{SameNumbers, numbers_more, numbers-kept, numbers-before, numbers-behind}
use Rattle.layout.specs.TracedRows.{SameTrace, trace-kept, trace-fewer, put_trace-behind}
use Rattle.layout.specs.GroupedRows.{SameGroups, groups-same, grouped-is}
use Rattle.layout.specs.FrameRows.{frame_in-same}

-- the count in cell i
abbrev pub count_at : Tables → ℕ → ℕ
count_at t i = get_or t.counts i 0

-- A list of rows, n of them, that leaves the table u when it is written into t

pub record Fills {A : Type 0} (p : List ℕ → ℕ → A → List ℕ) (xs : List A) (t : List ℕ) (n : ℕ) (u : List ℕ) : Type 0 where
  pub count : length xs ≡ n
  pub cells : write_rows p xs 0 t ≡ u

-- Both tasks' frames

pub record FillsFrames (qs rs : List Frame) (t : List ℕ) (m n : ℕ) (u : List ℕ) : Type 0 where
  pub quote : length qs ≡ m
  pub report : length rs ≡ n
  pub cells : write_stack (put_frame_in 1) rs (write_stack (put_frame_in 0) qs t) ≡ u

-- The eight counts, that leave d where they are written into c, and the owners and numbers behind them as they were

pub record FillsCounts (xs c d : List ℕ) : Type 0 where
  pub fill : Fills set xs c 8 d
  pub owners : SameOwners c d
  pub numbers : SameNumbers c d

-- Objects with their owners, that leave the tables m and u where they are written into d, which has the owners of c, and into t; the numbers behind the owners
-- stay as they were

pub record FillsObjects (xs : Objects) (c t : List ℕ) (n : ℕ) (leaves : List ℕ → List ℕ) (u : List ℕ) : Type 0 where
  pub count : length xs ≡ n
  pub owners : (d : List ℕ) → SameOwners c d → write_rows put_owner xs 0 d ≡ leaves d
  pub numbers : (d : List ℕ) → SameNumbers d (leaves d)
  pub cells : write_rows put_object_row xs 0 t ≡ u

-- The numbers of rows, that leave what `leaves` says where they are written into d, which has the numbers of c

pub record FillsNumbers (ns : RowNumbers) (c : List ℕ) (leaves : List ℕ → List ℕ) : Type 0 where
  pub cells : (d : List ℕ) → SameNumbers c d → put_numbers ns d ≡ leaves d
  pub trace : (d : List ℕ) → SameTrace d (leaves d)

-- The trace, that leaves what `leaves` says where it is written into d, which has the trace of c

pub record FillsTrace (ls : List Level) (c : List ℕ) (leaves : List ℕ → List ℕ) : Type 0 where
  pub cells : (d : List ℕ) → SameTrace c d → put_trace ls d ≡ leaves d
  pub groups : (d : List ℕ) → SameGroups d (leaves d)

-- The groups of ties ts with numbers ns, that leave what `leaves` says where they are written into d, which has the groups of c

pub record FillsGroups (ts : List Tie) (ns : List ℕ) (c : List ℕ) (leaves : List ℕ → List ℕ) : Type 0 where
  pub cells : (d : List ℕ) → SameGroups c d → put_groups ts ns d ≡ leaves d

-- the tables that rows leave, part by part, the counts last
pub put-fills : (r : Rows) (t : Tables) {n0 n1 n2 n3 n4 n5 n6 n7 : ℕ} {n c k e i s o f : List ℕ} {m v z y : List ℕ → List ℕ}
    → Fills put_class_row r.classes t.classes n0 c → Fills set r.kept t.kept n1 k → Fills put_entry r.cache t.cache n2 e
    → Fills put_tie r.ties t.ties n3 i → Fills put_subtype r.subtypes t.subtypes n4 s → FillsObjects r.objects t.counts t.objects n5 m o
    → FillsFrames r.quote r.report t.frames n6 n7 f
    → FillsNumbers r.numbers t.counts v → FillsTrace r.trace t.counts z → FillsGroups r.ties r.numbers.ties t.counts y
    → FillsCounts (n0 ∷ n1 ∷ n2 ∷ n3 ∷ n4 ∷ n5 ∷ n6 ∷ n7 ∷ []) t.counts n
    → put r t ≡ tables (y (z (v (m n)))) c k e i s o f
unfolding put counts_of
put-fills r t a b c d e f g v z y n =
    (λ j. record {
      counts = put_groups r.ties r.numbers.ties (put_trace r.trace (put_numbers r.numbers (write_rows put_owner r.objects 0 (write_rows set (a.count j ∷ b.count j ∷ c.count j ∷ d.count j ∷ e.count j ∷ f.count j ∷ g.quote j ∷ g.report j ∷ []) 0 t.counts))));
      classes = a.cells j;
      kept = b.cells j;
      cache = c.cells j;
      ties = d.cells j;
      subtypes = e.cells j;
      objects = f.cells j;
      frames = g.cells j;
    })
    ∙ rw (
      n.fill.cells,
      f.owners _ n.owners,
      v.cells _ (λ j l. f.numbers _ j l ∙ n.numbers j l),
      z.cells _ (λ j l. v.trace _ j l ∙ (f.numbers _ j (omega arith) ∙ n.numbers j (omega arith))),
      y.cells _ (λ j l. z.groups _ j l ∙ (v.trace _ j (omega arith) ∙ (f.numbers _ j (omega arith) ∙ n.numbers j (omega arith)))),
    )

-- Rows as they were read, and with others behind them

module _ {A : Type 0} {at : List ℕ → ℕ → A} {p : List ℕ → ℕ → A → List ℕ} {w : ℕ} {F : A → Type 0} (laws : RowLaws at p w F) (t : List ℕ) (n : ℕ) where
  pub fill-kept : Fills p (rows (at t) n 0) t n t
  fill-kept = record { count = rows-length (at t) n 0; cells = rows-kept laws t n }

module _ {A : Type 0} {at : List ℕ → ℕ → A} {p : List ℕ → ℕ → A → List ℕ} {w : ℕ} (laws : RowLaws at p w Anything) (t : List ℕ) (n : ℕ) where
  pub fill_more : (xs : List A) → Fills p (rows (at t) n 0 ++ xs) t (n + length xs) (write_rows p xs n t)
  fill_more xs = record { count = length-append (rows (at t) n 0) xs ∙ rw (rows-length (at t) n 0); cells = rows_more laws t n xs }

  pub fill-last : (x : A) → Fills p (rows (at t) n 0 ++ (x ∷ [])) t (n + 1) (p t n x)
  fill-last x = record { count = length-append (rows (at t) n 0) (x ∷ []) ∙ rw (rows-length (at t) n 0); cells = row_more laws t n x }

-- one of the eight counts set
pub count_set : {xs c d : List ℕ} (j x : ℕ) → j < 8 → FillsCounts xs c d → FillsCounts (set xs j x) c (set d j x)
count_set {xs} {c} {d} j x l h =
    let e : 0 + j ≡ j = omega arith in
    record {
      fill = record {
        count = length-set xs j x ∙ h.fill.count;
        cells = (rw e at (written-set xs 0 j x c (omega (arith, h.fill.count)))) ∙ ap (λ (z : List ℕ). set z j x) h.fill.cells;
      };
      owners = λ o. owners-set d j x l o ∙ h.owners o;
      numbers = λ i k. get_or-set_other d j i x 0 (λ e. omega arith) ∙ h.numbers i k;
    }

module _ (t : Tables) where
  abbrev pub counts_on : List ℕ
  counts_on = count_at t 0 ∷ count_at t 1 ∷ count_at t 2 ∷ count_at t 3 ∷ count_at t 4 ∷ count_at t 5 ∷ count_at t 6 ∷ count_at t 7 ∷ []

  pub counts-fill : FillsCounts counts_on t.counts t.counts
  unfolding rows
  counts-fill = record { fill = fill-kept cell-rows t.counts 8; owners = λ o. refl; numbers = λ j l. refl }

  pub classes-fill : Fills put_class_row (class_rows_of t) t.classes (count_at t 0) t.classes
  classes-fill = fill-kept class-rows t.classes (count_at t 0)

  pub kept-fill : Fills set (kept_of t) t.kept (count_at t 1) t.kept
  kept-fill = fill-kept cell-rows t.kept (count_at t 1)

  pub cache-fill : Fills put_entry (cache_of t) t.cache (count_at t 2) t.cache
  cache-fill = fill-kept entry-rows t.cache (count_at t 2)

  pub ties-fill : Fills put_tie (ties_of t) t.ties (count_at t 3) t.ties
  ties-fill = fill-kept tie-rows t.ties (count_at t 3)

  pub ties-more : (us : List Tie) → Fills put_tie (ties_of t ++ us) t.ties (count_at t 3 + length us) (write_rows put_tie us (count_at t 3) t.ties)
  ties-more us = fill_more tie-rows t.ties (count_at t 3) us

  pub subtypes-fill : Fills put_subtype (subtypes_of t) t.subtypes (count_at t 4) t.subtypes
  subtypes-fill = fill-kept subtype-rows t.subtypes (count_at t 4)

  pub subtypes-more : (ss : List Subtype)
      → Fills put_subtype (subtypes_of t ++ ss) t.subtypes (count_at t 4 + length ss) (write_rows put_subtype ss (count_at t 4) t.subtypes)
  subtypes-more ss = fill_more subtype-rows t.subtypes (count_at t 4) ss

  -- objects, where b gives the classes' fields: as they are, one made, a field of one set
  module _ (b : Base) where
    pub objects-fill : FillsObjects (objects_of b t) t.counts t.objects (count_at t 5) (λ d. d) t.objects
    unfolding objects_of
    objects-fill = record {
      count = rows-length (object_row_at b t.counts t.objects) (count_at t 5) 0;
      owners = λ d h. owners-same b t.counts t.objects d h (count_at t 5);
      numbers = λ d j l. refl;
      cells = rows_same b t.counts t.objects (count_at t 5);
    }

    pub object-made : (k : ℕ) (x : Object) → unused (objects_of b t) < 256
        → FillsObjects (made k x (objects_of b t)) t.counts t.objects (rows_with (unused (objects_of b t)) (count_at t 5))
        (λ d. set d (owners_cell + unused (objects_of b t)) (suc k)) (put_object t.objects (unused (objects_of b t)) x)
    unfolding objects_of
    object-made k x room = record {
      count = made-count k x _ (count_at t 5) (rows-length (object_row_at b t.counts t.objects) (count_at t 5) 0);
      owners = λ d h. owners-made b t.counts t.objects d h k (count_at t 5) x;
      numbers = λ d j l. get_or-set_other d (owners_cell + unused (objects_of b t)) j (suc k) 0 (λ e. omega arith);
      cells = rows_made b t.counts t.objects k (count_at t 5) x;
    }

    pub object-set : (o j : ℕ) (v : Value) → o < count_at t 5 → 0 < owner_at t.counts o → j < used_fields b (object_at b t.objects o).class
        → FillsObjects (changed (objects_of b t) o (with_field (object_at b t.objects o) j v)) t.counts t.objects (count_at t 5) (λ d. d)
        (put_field o t.objects j v)
    unfolding objects_of object_row_at
    object-set o j v l u h = record {
      count = changed-length _ o _ ∙ rows-length (object_row_at b t.counts t.objects) (count_at t 5) 0;
      owners = λ d h. owners-changed b t.counts t.objects d h (count_at t 5) o _ l;
      numbers = λ d i k. refl;
      cells = rows-changed b t.counts t.objects (count_at t 5) o _ l ∙ field (owner_at t.counts o) refl u;
    }
      where
        field : (w : ℕ) → owner_at t.counts o ≡ w → 0 < w
            → put_object_row t.objects o (rewritten (with_field (object_at b t.objects o) j v) (object_row_at b t.counts t.objects o)) ≡ put_field o t.objects j v
        field zero e z = absurd (omega arith)
        field (suc k) e z = rw e (unfold owned_by rewritten put_object_row in object-field b t.objects o j v h)

    -- some of them freed: owners alone are written
    pub objects-swept : (R : List ℕ) → count_at t 5 ≤ 256
        → FillsObjects (swept_from R 0 (objects_of b t)) t.counts t.objects (count_at t 5) (λ d. write_rows put_owner (swept_from R 0 (objects_of b t)) 0 d) t.objects
    unfolding objects_of
    objects-swept R room = record {
      count = swept-length R 0 (objects_of b t) ∙ rows-length (object_row_at b t.counts t.objects) (count_at t 5) 0;
      owners = λ d h. refl;
      numbers = λ d j l. owners-past (swept_from R 0 (objects_of b t)) 0 d j
          (omega (arith, swept-length R 0 (objects_of b t), rows-length (object_row_at b t.counts t.objects) (count_at t 5) 0));
      cells = rows-swept b t.counts t.objects R (count_at t 5) 0;
    }

  -- numbers as they are, with ties numbered on, and with both
  pub numbers-fill : FillsNumbers (numbers_of t) t.counts (λ d. d)
  unfolding put_numbers number_at
  numbers-fill = record {
    cells = λ d h.
        ap (write_rows (put_number tie_numbers_cell) (numbers_of t).ties 0) (numbers-kept subtype_numbers_cell t.counts d (count_at t 4) (λ i l. h (subtype_numbers_cell + i) (omega arith)))
        ∙ numbers-kept tie_numbers_cell t.counts d (count_at t 3) (λ i l. h (tie_numbers_cell + i) (omega arith));
    trace = λ d j l. refl;
  }

  pub ties-numbered : (us : List ℕ) → count_at t 3 + length us ≤ 256
      → FillsNumbers (row_numbers ((numbers_of t).ties ++ us) (numbers_of t).subtypes) t.counts (λ d. write_rows (put_number tie_numbers_cell) us (count_at t 3) d)
  unfolding put_numbers number_at
  ties-numbered us room = record {
    cells = λ d h.
        ap (write_rows (put_number tie_numbers_cell) ((numbers_of t).ties ++ us) 0) (numbers-kept subtype_numbers_cell t.counts d (count_at t 4) (λ i l. h (subtype_numbers_cell + i) (omega arith)))
        ∙ numbers_more tie_numbers_cell t.counts d (count_at t 3) us (λ i l. h (tie_numbers_cell + i) (omega arith));
    trace = λ d j l. numbers-behind tie_numbers_cell us (count_at t 3) d j (omega arith);
  }

  pub both-numbered : (us ss : List ℕ) → count_at t 3 + length us ≤ 256 → count_at t 4 + length ss ≤ 256
      → FillsNumbers (row_numbers ((numbers_of t).ties ++ us) ((numbers_of t).subtypes ++ ss)) t.counts
      (λ d. write_rows (put_number tie_numbers_cell) us (count_at t 3) (write_rows (put_number subtype_numbers_cell) ss (count_at t 4) d))
  unfolding put_numbers number_at
  both-numbered us ss room space = record {
    cells = λ d h.
        let e : List ℕ = write_rows (put_number subtype_numbers_cell) ss (count_at t 4) d in
        ap (write_rows (put_number tie_numbers_cell) ((numbers_of t).ties ++ us) 0) (numbers_more subtype_numbers_cell t.counts d (count_at t 4) ss (λ i l. h (subtype_numbers_cell + i) (omega arith)))
        ∙ numbers_more tie_numbers_cell t.counts e (count_at t 3) us
        (λ i l. numbers-before subtype_numbers_cell ss (count_at t 4) d (tie_numbers_cell + i) (omega arith) ∙ h (tie_numbers_cell + i) (omega arith));
    trace = λ d j l.
        numbers-behind tie_numbers_cell us (count_at t 3) (write_rows (put_number subtype_numbers_cell) ss (count_at t 4) d) j (omega arith)
        ∙ numbers-behind subtype_numbers_cell ss (count_at t 4) d j (omega arith);
  }

  -- the trace as it is, none, and any
  pub trace-fill : FillsTrace (trace_of t) t.counts (λ d. d)
  trace-fill = record { cells = λ d h. trace-kept t.counts d h; groups = λ d j l. refl }

  pub trace-closed : FillsTrace [] t.counts (λ d. set d loads_cell 0)
  unfolding put_trace write_stack
  trace-closed = record { cells = λ d h. refl; groups = λ d j l. get_or-set_other d loads_cell j 0 0 (λ e. omega arith) }

  pub trace-first : (n : ℕ) → FillsTrace (stack (level_at t.counts) n) t.counts (λ d. set d loads_cell n)
  trace-first n = record { cells = λ d h. trace-fewer t.counts d n h; groups = λ d j l. get_or-set_other d loads_cell j n 0 (λ e. omega arith) }

  -- the first n numbers of each kind
  pub numbers-first : (n m : ℕ) → n ≤ 256
      → FillsNumbers (row_numbers (rows (number_at tie_numbers_cell t.counts) n 0) (rows (number_at subtype_numbers_cell t.counts) m 0)) t.counts (λ d. d)
  unfolding put_numbers number_at
  numbers-first n m room = record {
    cells = λ d h.
        ap (write_rows (put_number tie_numbers_cell) (rows (number_at tie_numbers_cell t.counts) n 0) 0)
        (numbers-kept subtype_numbers_cell t.counts d m (λ i l. h (subtype_numbers_cell + i) (omega arith)))
        ∙ numbers-kept tie_numbers_cell t.counts d n (λ i l. h (tie_numbers_cell + i) (omega arith));
    trace = λ d j l. refl;
  }

  pub trace-put : (ls : List Level) → length ls ≤ trace_limit → FillsTrace ls t.counts (put_trace ls)
  trace-put ls few = record { cells = λ d h. refl; groups = λ d j l. put_trace-behind ls d j (omega (arith, few, l)) }

  -- groups as they are, if they are right, and any
  pub groups-fill : grouped t ≡ true → FillsGroups (ties_of t) (numbers_of t).ties t.counts (λ d. d)
  groups-fill h = record { cells = λ d s. groups-same (ties_of t) (numbers_of t).ties t.counts d (count_at t 3) (grouped-is t h) s }

  pub groups-put : (ts : List Tie) (ns : List ℕ) → FillsGroups ts ns t.counts (put_groups ts ns)
  groups-put ts ns = record { cells = λ d s. refl }

  -- frames as they are
  pub frames-fill : FillsFrames (frames_of t 0) (frames_of t 1) t.frames (count_at t 6) (count_at t 7) t.frames
  unfolding frames_of
  frames-fill = record {
    quote = stack-length (frame_in t.frames 0) (count_at t 6);
    report = stack-length (frame_in t.frames 1) (count_at t 7);
    cells =
        ap (write_stack (put_frame_in 1) (frames_of t 1)) (write_stack-same (put_frame_in 0) (frame_in t.frames 0) t.frames (frame_in-same t.frames 0) (count_at t 6))
        ∙ write_stack-same (put_frame_in 1) (frame_in t.frames 1) t.frames (frame_in-same t.frames 1) (count_at t 7);
  }

-- What was read and is put back changes nothing, where the groups are right

pub put-over : (b : Base) (t : Tables) → grouped t ≡ true → put (view_over b t) t ≡ t
unfolding view_over
put-over b t h =
    put-fills (view_over b t) t (classes-fill t) (kept-fill t) (cache-fill t) (ties-fill t) (subtypes-fill t) (objects-fill t b) (frames-fill t) (numbers-fill t) (trace-fill t)
    (groups-fill t h) (counts-fill t)

pub put_view : (t : Tables) → grouped t ≡ true → put (view t) t ≡ t
unfolding view
put_view t h = put-over (view_base t) t h

-- The frames of task k replaced, n of them, that leave u where they are written. The report's rows lie behind the quote's: frames put for the quote must
-- not reach them.

pub record FillsTask (k : ℕ) (fs : List Frame) (t : Tables) (n : ℕ) (u : List ℕ) : Type 0 where
  pub count : length fs ≡ n
  pub cells : write_stack (put_frame_in k) fs t.frames ≡ u
  pub apart : k ≡ 0 → stack (frame_in u 1) (count_at t 7) ≡ stack (frame_in t.frames 1) (count_at t 7)

module _ (t : Tables) (fs : List Frame) (n : ℕ) (u : List ℕ) where
  pub quote-fill : FillsTask 0 fs t n u → FillsFrames fs (frames_of t 1) t.frames n (count_at t 7) u
  unfolding frames_of
  quote-fill h = record {
    quote = h.count;
    report = stack-length (frame_in t.frames 1) (count_at t 7);
    cells =
        (λ i. write_stack (put_frame_in 1) (sym (h.apart refl) i) (h.cells i))
        ∙ write_stack-same (put_frame_in 1) (frame_in u 1) u (frame_in-same u 1) (count_at t 7);
  }

  pub report-fill : FillsTask 1 fs t n u → FillsFrames (frames_of t 0) fs t.frames (count_at t 6) n u
  unfolding frames_of
  report-fill h = record {
    quote = stack-length (frame_in t.frames 0) (count_at t 6);
    report = h.count;
    cells =
        ap (write_stack (put_frame_in 1) fs) (write_stack-same (put_frame_in 0) (frame_in t.frames 0) t.frames (frame_in-same t.frames 0) (count_at t 6))
        ∙ h.cells;
  }
