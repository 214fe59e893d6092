-- What the calls write and what they read: rows that were appended, replaced or dropped write their own cells, their count and, of objects, their owners.
use Rattle.std.specs.Prelude.{◌≡◌, Bool, get_or, take}
use Rattle.std.proofs.Math.Path.{refl, sym, ap}
use Rattle.std.proofs.Common.{◌∙◌, length-append, ltb-true, ltb-false, lt-ltb}
use Rattle.std.proofs.Math.Bool.{true, false}
use Rattle.std.proofs.Math.Option.{none, some, some-injective, none-ne-some}
use mathlib.Core.List.{List, [], ◌∷◌, ◌++◌, map, append-nil}
use Prim.Native.Nat.{ℕ, zero, suc, ◌+◌, ◌*◌, ◌<◌, ◌≤◌}
use native.Mathlib.Omega.{arith}
use Rattle.std.proofs.Math.ListN.{length, get_elem?, set, length-map}
use Rattle.std.proofs.Math.Seq.{set-get_or, get_or-set_other}
use Rattle.std.proofs.Math.Dec.{ltb}
use Rattle.definition.specs.Numbers.{tie_numbers_cell, subtype_numbers_cell, loads_cell, trace_limit}
use Rattle.definition.specs.Lists.{rows, write_rows, stack, write_stack}
use Rattle.definition.specs.Requests.{Request, at}
use Rattle.definition.specs.Classes.{Base, Class}
use Rattle.definition.specs.Constraints.{Tie, Subtype}
use Rattle.definition.specs.Machine.{Value, Frame, Progress, ObjectRow, object_held, existing}
use Rattle.definition.specs.Loading.{with_class, with_entry}
use Rattle.definition.specs.Sweeping.{swept_from}
use Rattle.definition.specs.Tables.{Tables, tables, Level, Rows, class_at, level_of, cut_to, level_at, row_numbers, number_at, entry_at, tie_at, subtype_at, world_of, put_three, class_row_at, put_class_row, put_entry, put_tie, put_subtype, object_at, owned_by, owner_of, owner_at, object_row_at, put_number, local_at, put_local, operand_at, put_operand, frame_of, put_frame, frame_base, frame_in, put_frame_in, class_rows_of, kept_of, cache_of, ties_of, subtypes_of, numbers_of, trace_of, view_base, objects_of, frames_of, view_over, put_trace, put_groups, put, with_cache, with_trace, with_objects, with_frames, put_owner}
use Rattle.definition.specs.Broken.{grouped}
use Rattle.definition.specs.Calls.{numbers_from, numbered_on, remembered, closed, add_file, entry_trace, add_entry, progressed}
use Rattle.layout.specs.Places.{rows-length, rows-part, rows-map, rows-there, rows-past, stack-length, stack-cong, write_stack-above, write_stack-two}
use Rattle.layout.specs.Rows.{class-rows, entry-rows, tie-rows, subtype-rows, cell-rows}
use Rattle.layout.specs.OwnedRows.{owner-is}
use Rattle.layout.specs.NumberedRows.{numbers-behind, numbered-on, ties-numbered-on}
use Rattle.layout.specs.GroupedRows.{SameGroups}
use Rattle.layout.specs.Values.{Unread, unread-value}
use Rattle.layout.specs.FrameRows.{moved, frame_with, with_value, frame-kept, frame-above, frame-local, frame-given, frame_in-same, frame-unread, unread-frame}
pub use Rattle.layout.specs.Fills.{count_at, Fills, FillsObjects, classes-fill, kept-fill, objects-fill, object-made, object-set, put_view, FillsTask}
use Rattle.layout.specs.Fills.{FillsCounts, FillsNumbers, FillsGroups, numbers-fill, groups-fill, groups-put, trace-closed, trace-put, trace-first, numbers-first, fill-kept, ties-numbered, both-numbered, put-fills, fill_more, fill-last, count_set, counts_on, counts-fill, objects-swept, cache-fill, ties-fill, ties-more, subtypes-fill, subtypes-more, frames-fill, quote-fill, report-fill}

-- an entry that is added is remembered
pub entry-added : (r : Rows) (q : Request) (c : ℕ) → add_entry r (with_entry (world_of r) q c) ≡ remembered r (with_cache (r.cache ++ (record { request = q; class = c } ∷ [])) r)
unfolding entry_trace
entry-added r q c =
    ap (λ (u : Bool). with_trace (elim u as (λ _. List Level) [ true ↦ take trace_limit (level_of r ∷ r.trace) | false ↦ r.trace ]) (with_cache (r.cache ++ (record { request = q; class = c } ∷ [])) r))
    (lt-ltb (length r.cache) (length (r.cache ++ (record { request = q; class = c } ∷ []))) (omega (arith, length-append r.cache (record { request = q; class = c } ∷ []))))

at-most : {A : Type 0} (n : ℕ) (xs : List A) → length (take n xs) ≤ n
at-most zero xs = omega arith
at-most (suc n) [] = omega arith
at-most (suc n) (x ∷ xs) = omega (arith, at-most n xs)

-- What the calls put

module _ (b : Base) (t : Tables) where
  -- a task's frames alone
  pub frames-writes : (k : ℕ) (fs : List Frame) (n : ℕ) (u : List ℕ) → k < 2 → FillsTask k fs t n u → grouped t ≡ true
      → put (closed (with_frames k fs (view_over b t))) t
      ≡ tables (set (set t.counts (6 + k) n) loads_cell 0) t.classes t.kept t.cache t.ties t.subtypes t.objects u
  unfolding view_over
  frames-writes zero fs n u two h g =
      put-fills (closed (with_frames 0 fs (view_over b t))) t (classes-fill t) (kept-fill t) (cache-fill t) (ties-fill t) (subtypes-fill t) (objects-fill t b)
      (quote-fill t fs n u h) (numbers-fill t) (trace-closed t) (groups-fill t g) (count_set 6 n (omega arith) (counts-fill t))
  frames-writes (suc zero) fs n u two h g =
      put-fills (closed (with_frames 1 fs (view_over b t))) t (classes-fill t) (kept-fill t) (cache-fill t) (ties-fill t) (subtypes-fill t) (objects-fill t b)
      (report-fill t fs n u h) (numbers-fill t) (trace-closed t) (groups-fill t g) (count_set 7 n (omega arith) (counts-fill t))
  frames-writes (suc (suc k)) fs n u two h g = absurd (omega arith)

  -- drop: one count
  pub drop-writes : (k : ℕ) → k < 2 → grouped t ≡ true
      → put (closed (with_frames k [] (view_over b t))) t
      ≡ tables (set (set t.counts (6 + k) 0) loads_cell 0) t.classes t.kept t.cache t.ties t.subtypes t.objects t.frames
  unfolding write_stack
  drop-writes k two g = frames-writes k [] 0 t.frames two (record { count = refl; cells = refl; apart = λ e. refl }) g

  -- a load is remembered: the level before it, the latest
  abbrev pub remembering : List ℕ → List ℕ
  remembering c = put_trace (take trace_limit (level_of (view_over b t) ∷ trace_of t)) c

  few-levels : length (take trace_limit (level_of (view_over b t) ∷ trace_of t)) ≤ trace_limit
  few-levels = at-most trace_limit (level_of (view_over b t) ∷ trace_of t)

  -- record: one entry and one count
  pub entry-writes : (l n c : ℕ) → grouped t ≡ true
      → put (add_entry (view_over b t) (with_entry (world_of (view_over b t)) (at l n) c)) t
      ≡ tables (remembering (set t.counts 2 (count_at t 2 + 1))) t.classes t.kept (put_three t.cache (count_at t 2) l n c) t.ties t.subtypes t.objects t.frames
  unfolding view_over put_entry
  entry-writes l n c g =
      ap (λ (z : Rows). put z t) (entry-added (view_over b t) (at l n) c)
      ∙ put-fills (remembered (view_over b t) (with_cache (cache_of t ++ (record { request = at l n; class = c } ∷ [])) (view_over b t))) t (classes-fill t) (kept-fill t)
      (fill-last entry-rows t.cache (count_at t 2) (record { request = at l n; class = c })) (ties-fill t) (subtypes-fill t) (objects-fill t b)
      (frames-fill t) (numbers-fill t) (trace-put t _ few-levels) (groups-fill t g) (count_set 2 (count_at t 2 + 1) (omega arith) (counts-fill t))

  -- the numbers that posted rows get: subtype constraints first, then ties, n of them from k on
  abbrev pub subtypes_numbered : ℕ → List ℕ → List ℕ
  subtypes_numbered n c = write_rows (put_number subtype_numbers_cell) (numbers_from (count_at t 3 + count_at t 4) n) (count_at t 4) c

  abbrev pub ties_numbered : ℕ → ℕ → List ℕ → List ℕ
  ties_numbered k n c = write_rows (put_number tie_numbers_cell) (numbers_from k n) (count_at t 3) c

  -- the groups with the ties that were posted, which are numbered from k on
  abbrev pub regrouped : ℕ → List Tie → List ℕ → List ℕ
  regrouped k us c = put_groups (ties_of t ++ us) ((numbers_of t).ties ++ numbers_from k (length us)) c

  -- none was posted: groups that are right stay
  pub regrouped-none : (k : ℕ) (c : List ℕ) → grouped t ≡ true → SameGroups t.counts c → regrouped k [] c ≡ c
  unfolding rows
  regrouped-none k c g s = rw (append-nil (ties_of t), append-nil (numbers_of t).ties) ((groups-fill t g).cells c s)

  -- what else a load writes behind the counts leaves groups as they were
  pub groups-unwritten : (k n m : ℕ) (c : List ℕ) → count_at t 3 + n ≤ 256 → count_at t 4 + m ≤ 256 → SameGroups t.counts c
      → SameGroups t.counts (remembering (ties_numbered k n (subtypes_numbered m c)))
  groups-unwritten k n m c room space s j l =
      (trace-put t _ few-levels).groups (ties_numbered k n (subtypes_numbered m c)) j l
      ∙ (numbers-behind tie_numbers_cell (numbers_from k n) (count_at t 3) (subtypes_numbered m c) j (omega (arith, rows-length (λ i. i) n k, room, l))
      ∙ (numbers-behind subtype_numbers_cell (numbers_from (count_at t 3 + count_at t 4) m) (count_at t 4) c j (omega (arith, rows-length (λ i. i) m (count_at t 3 + count_at t 4), space, l))
      ∙ s j l))

  -- define: a class row, the file's bytes, an entry, ties, subtype constraints, their five counts, the numbers of what it posted, and groups
  pub class-writes : (l : ℕ) (bs : List ℕ) (k : Class) (us : List Tie) (ss : List Subtype) → count_at t 3 + length us ≤ 256 → count_at t 4 + length ss ≤ 256
      → put (add_file l bs (view_over b t) (with_class (world_of (view_over b t)) k us ss)) t
      ≡ tables
      (regrouped (count_at t 3 + count_at t 4 + length ss) us (remembering (ties_numbered (count_at t 3 + count_at t 4 + length ss) (length us) (subtypes_numbered (length ss)
      (set (set (set (set (set t.counts 0 (count_at t 0 + 1)) 1 (count_at t 1 + length bs)) 2 (count_at t 2 + 1)) 3 (count_at t 3 + length us)) 4 (count_at t 4 + length ss))))))
      (put_three t.classes (count_at t 0) l (count_at t 1) (length bs))
      (write_rows set bs (count_at t 1) t.kept)
      (put_three t.cache (count_at t 2) k.loader k.name (count_at t 0))
      (write_rows put_tie us (count_at t 3) t.ties)
      (write_rows put_subtype ss (count_at t 4) t.subtypes)
      t.objects
      t.frames
  unfolding view_over put_entry put_class_row
  class-writes l bs k us ss room space =
      let n : length (kept_of t) ≡ count_at t 1 = (kept-fill t).count in
      let m : length (map (class_at (kept_of t)) (class_rows_of t)) ≡ count_at t 0 = length-map (class_rows_of t) (class_at (kept_of t)) ∙ (classes-fill t).count in
      put-fills (add_file l bs (view_over b t) (with_class (world_of (view_over b t)) k us ss)) t
      (fill-last class-rows t.classes (count_at t 0) (record { loader = l; start = length (kept_of t); size = length bs }))
      (fill_more cell-rows t.kept (count_at t 1) bs)
      (fill-last entry-rows t.cache (count_at t 2) (record { request = at k.loader k.name; class = length (map (class_at (kept_of t)) (class_rows_of t)) }))
      (ties-more t us) (subtypes-more t ss) (objects-fill t b) (frames-fill t) numbers (trace-put t _ few-levels) groups
      (count_set 4 (count_at t 4 + length ss) (omega arith) (count_set 3 (count_at t 3 + length us) (omega arith)
      (count_set 2 (count_at t 2 + 1) (omega arith) (count_set 1 (count_at t 1 + length bs) (omega arith) (count_set 0 (count_at t 0 + 1) (omega arith) (counts-fill t))))))
      ∙ rw (n, m)
    where
      numbers : FillsNumbers (numbered_on (ties_of t ++ us) (subtypes_of t ++ ss) (view_over b t)) t.counts (λ c. ties_numbered (count_at t 3 + count_at t 4 + length ss) (length us) (subtypes_numbered (length ss) c))
      numbers = rw (numbered-on (view_over b t) us ss, (ties-fill t).count, (subtypes-fill t).count) (both-numbered t (numbers_from (count_at t 3 + count_at t 4 + length ss) (length us)) (numbers_from (count_at t 3 + count_at t 4) (length ss)) (omega (arith, rows-length (λ i. i) (length us) (count_at t 3 + count_at t 4 + length ss), room)) (omega (arith, rows-length (λ i. i) (length ss) (count_at t 3 + count_at t 4), space)))

      groups : FillsGroups (ties_of t ++ us) (numbered_on (ties_of t ++ us) (subtypes_of t ++ ss) (view_over b t)).ties t.counts (regrouped (count_at t 3 + count_at t 4 + length ss) us)
      groups = rw (numbered-on (view_over b t) us ss, (ties-fill t).count, (subtypes-fill t).count) (groups-put t (ties_of t ++ us) ((numbers_of t).ties ++ numbers_from (count_at t 3 + count_at t 4 + length ss) (length us)))

  -- a task's progress: the ties that it posted, with their numbers, the objects and the task's frames that it leaves, their three counts, the owners and groups
  pub progress-writes : (k : ℕ) (p : Progress) (us : List Tie) (m n : ℕ) (w : List ℕ → List ℕ) (o u : List ℕ) → k < 2 → count_at t 3 + length us ≤ 256 → p.world.ties ≡ ties_of t ++ us
      → FillsObjects p.objects t.counts t.objects m w o → FillsTask k p.frames t n u
      → put (closed (progressed k (view_over b t) p)) t
      ≡ tables (regrouped (count_at t 3 + count_at t 4) us (set (ties_numbered (count_at t 3 + count_at t 4) (length us) (w (set (set (set t.counts 3 (count_at t 3 + length us)) 5 m) (6 + k) n))) loads_cell 0))
      t.classes t.kept t.cache (write_rows put_tie us (count_at t 3) t.ties) t.subtypes o u
  unfolding view_over
  progress-writes k p us m n w o u two room e g h = go k two h
    where
      posted : Fills put_tie p.world.ties t.ties (count_at t 3 + length us) (write_rows put_tie us (count_at t 3) t.ties)
      posted = rw e (ties-more t us)

      numbers : FillsNumbers (numbered_on p.world.ties (subtypes_of t) (view_over b t)) t.counts (ties_numbered (count_at t 3 + count_at t 4) (length us))
      numbers = rw (e, ties-numbered-on (view_over b t) us, (ties-fill t).count, (subtypes-fill t).count) (ties-numbered t (numbers_from (count_at t 3 + count_at t 4) (length us)) (omega (arith, rows-length (λ i. i) (length us) (count_at t 3 + count_at t 4), room)))

      groups : FillsGroups p.world.ties (numbered_on p.world.ties (subtypes_of t) (view_over b t)).ties t.counts (regrouped (count_at t 3 + count_at t 4) us)
      groups = rw (e, ties-numbered-on (view_over b t) us, (ties-fill t).count, (subtypes-fill t).count) (groups-put t (ties_of t ++ us) ((numbers_of t).ties ++ numbers_from (count_at t 3 + count_at t 4) (length us)))

      counts : FillsCounts (set (set (counts_on t) 3 (count_at t 3 + length us)) 5 m) t.counts (set (set t.counts 3 (count_at t 3 + length us)) 5 m)
      counts = count_set 5 m (omega arith) (count_set 3 (count_at t 3 + length us) (omega arith) (counts-fill t))

      go : (k : ℕ) → k < 2 → FillsTask k p.frames t n u
          → put (closed (progressed k (view_over b t) p)) t
          ≡ tables (regrouped (count_at t 3 + count_at t 4) us (set (ties_numbered (count_at t 3 + count_at t 4) (length us) (w (set (set (set t.counts 3 (count_at t 3 + length us)) 5 m) (6 + k) n))) loads_cell 0))
          t.classes t.kept t.cache (write_rows put_tie us (count_at t 3) t.ties) t.subtypes o u
      go zero two h =
          put-fills (closed (progressed 0 (view_over b t) p)) t (classes-fill t) (kept-fill t) (cache-fill t) posted (subtypes-fill t) g
          (quote-fill t p.frames n u h) numbers (trace-closed t) groups (count_set 6 n (omega arith) counts)
      go (suc zero) two h =
          put-fills (closed (progressed 1 (view_over b t) p)) t (classes-fill t) (kept-fill t) (cache-fill t) posted (subtypes-fill t) g
          (report-fill t p.frames n u h) numbers (trace-closed t) groups (count_set 7 n (omega arith) counts)
      go (suc (suc k)) two h = absurd (omega arith)

  -- the same where it posted no tie: groups that are right stay
  pub quiet-writes : (k : ℕ) (p : Progress) (m n : ℕ) (w : List ℕ → List ℕ) (o u : List ℕ) → k < 2 → count_at t 3 ≤ 256 → p.world.ties ≡ ties_of t
      → FillsObjects p.objects t.counts t.objects m w o → FillsTask k p.frames t n u → grouped t ≡ true
      → put (closed (progressed k (view_over b t) p)) t ≡ tables (set (w (set (set t.counts 5 m) (6 + k) n)) loads_cell 0) t.classes t.kept t.cache t.ties t.subtypes o u
  unfolding write_rows rows
  quiet-writes k p m n w o u two room e g h q =
      let z : count_at t 3 + 0 ≡ count_at t 3 = omega arith in
      let c1 : List ℕ = set t.counts 3 (count_at t 3 + 0) in
      let c2 : List ℕ = set c1 5 m in
      let c3 : List ℕ = set c2 (6 + k) n in
      let same : SameGroups t.counts (set (w c3) loads_cell 0) = λ j l.
      get_or-set_other (w c3) loads_cell j 0 0 (λ e. omega arith)
      ∙ (g.numbers c3 j (omega arith)
      ∙ (get_or-set_other c2 (6 + k) j n 0 (λ e. omega arith) ∙ (get_or-set_other c1 5 j m 0 (λ e. omega arith) ∙ get_or-set_other t.counts 3 j (count_at t 3 + 0) 0 (λ e. omega arith)))) in
      progress-writes k p [] m n w o u two (omega arith) (e ∙ sym (append-nil (ties_of t))) g h
      ∙ (ap (λ (c : List ℕ). tables c t.classes t.kept t.cache t.ties t.subtypes o u) (regrouped-none (count_at t 3 + count_at t 4) (set (w c3) loads_cell 0) q same)
      ∙ rw (z, set-get_or t.counts 3 0))

  -- sweep: owners
  pub sweep-writes : (R : List ℕ) → count_at t 5 ≤ 256 → grouped t ≡ true → put (closed (with_objects (swept_from R 0 (objects_of b t)) (view_over b t))) t
      ≡ tables (set (write_rows put_owner (swept_from R 0 (objects_of b t)) 0 t.counts) loads_cell 0) t.classes t.kept t.cache t.ties t.subtypes t.objects t.frames
  unfolding view_over
  sweep-writes R room g =
      put-fills (closed (with_objects (swept_from R 0 (objects_of b t)) (view_over b t))) t (classes-fill t) (kept-fill t) (cache-fill t) (ties-fill t) (subtypes-fill t)
      (objects-swept t b R room) (frames-fill t) (numbers-fill t) (trace-closed t) (groups-fill t g) (counts-fill t)

-- taking back: where no count of the level is above the tables', the five counts, that of loads, and the groups of the ties left, made anew
first_rows : {A : Type 0} (g : ℕ → A) (n m : ℕ) → n ≤ m → take n (rows g m 0) ≡ rows g n 0
first_rows g n m l = let z : 0 + 0 ≡ 0 = omega arith in rw z at (rows-part g m 0 n 0 (omega arith))

pub back-writes : (b : Base) (t : Tables) (n : ℕ) (l : Level) → l.classes ≤ count_at t 0 → l.kept ≤ count_at t 1 → l.cache ≤ count_at t 2 → l.ties ≤ count_at t 3 → l.subtypes ≤ count_at t 4
    → count_at t 3 ≤ 256 → put (with_trace (stack (level_at t.counts) n) (cut_to l (view_over b t))) t
    ≡ tables
    (put_groups (rows (tie_at t.ties) l.ties 0) (rows (number_at tie_numbers_cell t.counts) l.ties 0)
    (set (set (set (set (set (set t.counts 0 l.classes) 1 l.kept) 2 l.cache) 3 l.ties) 4 l.subtypes) loads_cell n))
    t.classes t.kept t.cache t.ties t.subtypes t.objects t.frames
unfolding view_over cut_to
back-writes b t n l a0 a1 a2 a3 a4 room =
    put-fills (with_trace (stack (level_at t.counts) n) (cut_to l (view_over b t))) t
    (rw (first_rows (class_row_at t.classes) l.classes (count_at t 0) a0) (fill-kept class-rows t.classes l.classes))
    (rw (first_rows (λ i. get_or t.kept i 0) l.kept (count_at t 1) a1) (fill-kept cell-rows t.kept l.kept))
    (rw (first_rows (entry_at t.cache) l.cache (count_at t 2) a2) (fill-kept entry-rows t.cache l.cache))
    (rw (first_rows (tie_at t.ties) l.ties (count_at t 3) a3) (fill-kept tie-rows t.ties l.ties))
    (rw (first_rows (subtype_at t.subtypes) l.subtypes (count_at t 4) a4) (fill-kept subtype-rows t.subtypes l.subtypes))
    (objects-fill t b) (frames-fill t)
    numbers (trace-first t n) groups
    (count_set 4 l.subtypes (omega arith) (count_set 3 l.ties (omega arith) (count_set 2 l.cache (omega arith)
    (count_set 1 l.kept (omega arith) (count_set 0 l.classes (omega arith) (counts-fill t))))))
  where
    numbers : FillsNumbers (row_numbers (take l.ties (rows (number_at tie_numbers_cell t.counts) (count_at t 3) 0)) (take l.subtypes (rows (number_at subtype_numbers_cell t.counts) (count_at t 4) 0)))
        t.counts (λ d. d)
    numbers =
        rw (first_rows (number_at tie_numbers_cell t.counts) l.ties (count_at t 3) a3, first_rows (number_at subtype_numbers_cell t.counts) l.subtypes (count_at t 4) a4)
        (numbers-first t l.ties l.subtypes (omega arith))

    groups : FillsGroups (take l.ties (rows (tie_at t.ties) (count_at t 3) 0)) (take l.ties (rows (number_at tie_numbers_cell t.counts) (count_at t 3) 0))
        t.counts (put_groups (rows (tie_at t.ties) l.ties 0) (rows (number_at tie_numbers_cell t.counts) l.ties 0))
    groups =
        rw (first_rows (tie_at t.ties) l.ties (count_at t 3) a3, first_rows (number_at tie_numbers_cell t.counts) l.ties (count_at t 3) a3)
        (groups-put t (rows (tie_at t.ties) l.ties 0) (rows (number_at tie_numbers_cell t.counts) l.ties 0))

-- What a task's frames write

-- the report's frames, where cells of the quote's rows are written
report-unread : (n lo : ℕ) → Unread (λ s. stack (frame_in s 1) n) lo 1664
unfolding frame_in
report-unread n lo =
    λ t m v a h. stack-cong (frame_in (set t m v) 1) (frame_in t 1) n (λ i l. frame-unread (frame_base 1 i) lo 1664 (omega arith) t m v a h)

-- no frame
pub none_left : (t : Tables) (k : ℕ) → FillsTask k [] t 0 t.frames
unfolding write_stack
none_left t k = record { count = refl; cells = refl; apart = λ e. refl }

-- m frames of task k stay under the one that changes, in row m
module _ (t : Tables) (k m : ℕ) (room : m < 32) where
  abbrev row : ℕ
  row = frame_base k m

  abbrev under : List Frame
  under = stack (frame_in t.frames k) m

  abbrev reported : List ℕ → List Frame
  reported s = stack (frame_in s 1) (count_at t 7)

  abbrev unreported : Unread reported 0 1664
  unreported = report-unread (count_at t 7) 0

  moved_apart : (p d : ℕ) → k ≡ 0 → reported (moved t.frames row p d) ≡ reported t.frames
  moved_apart p d e = unreported (set t.frames (row + 2) p) (row + 3) d (omega arith) (omega arith) ∙ unreported t.frames (row + 2) p (omega arith) (omega arith)

  frame_apart : (s : List ℕ) (f : Frame) → length f.operands ≤ 16 → length f.locals ≤ 8 → k ≡ 0 → reported (put_frame s row f) ≡ reported s
  frame_apart s f a c e = unread-frame reported row 1664 (report-unread (count_at t 7) row) f (omega arith) (omega arith) (omega arith) s

  under-count : length under ≡ m
  under-count = stack-length (frame_in t.frames k) m

  -- any frame that fits its row
  pub top-fill : (f : Frame) → length f.operands ≤ 16 → length f.locals ≤ 8 → FillsTask k (f ∷ under) t (suc m) (put_frame t.frames row f)
  unfolding put_frame_in
  top-fill f a c = record {
    count = ap suc under-count;
    cells = write_stack-above (put_frame_in k) (frame_in t.frames k) t.frames (frame_in-same t.frames k) m f;
    apart = frame_apart t.frames f a c;
  }

  -- the frame moved to point p with its lowest d operands
  pub top_kept : (p d : ℕ) → FillsTask k (frame_of t.frames row p d ∷ under) t (suc m) (moved t.frames row p d)
  unfolding put_frame_in
  top_kept p d = record {
    count = ap suc under-count;
    cells =
        write_stack-above (put_frame_in k) (frame_in t.frames k) t.frames (frame_in-same t.frames k) m (frame_of t.frames row p d)
        ∙ frame-kept t.frames row p d;
    apart = moved_apart p d;
  }

  -- and a value above them
  pub top_above : (p d : ℕ) (v : Value) → d < 16
      → FillsTask k (frame_with t.frames row p (v ∷ stack (operand_at t.frames row) d) (rows (local_at t.frames row) 8 0) ∷ under) t (suc m)
      (put_operand row (moved t.frames row p (d + 1)) d v)
  unfolding put_frame_in put_operand
  top_above p d v l =
      let e : d + 1 ≡ suc d = omega arith in
      rw e (record {
        count = ap suc under-count;
        cells =
            write_stack-above (put_frame_in k) (frame_in t.frames k) t.frames (frame_in-same t.frames k) m
            (frame_with t.frames row p (v ∷ stack (operand_at t.frames row) d) (rows (local_at t.frames row) 8 0))
            ∙ frame-above t.frames row p d v;
        apart = λ z. unread-value reported 0 1664 unreported (moved t.frames row p (suc d)) (row + (20 + 2 * d)) v (omega arith) (omega arith) ∙ moved_apart p (suc d) z;
      })

  -- the frame moved, with its lowest d operands and a local set
  pub top-local : (p d j : ℕ) (v : Value) → j < 8
      → FillsTask k (frame_with t.frames row p (stack (operand_at t.frames row) d) (set (rows (local_at t.frames row) 8 0) j v) ∷ under) t (suc m)
      (put_local row (moved t.frames row p d) j v)
  unfolding put_frame_in put_local
  top-local p d j v l = record {
    count = ap suc under-count;
    cells =
        write_stack-above (put_frame_in k) (frame_in t.frames k) t.frames (frame_in-same t.frames k) m
        (frame_with t.frames row p (stack (operand_at t.frames row) d) (set (rows (local_at t.frames row) 8 0) j v))
        ∙ frame-local t.frames row p d j v l;
    apart = λ z. unread-value reported 0 1664 unreported (moved t.frames row p d) (row + (4 + 2 * j)) v (omega arith) (omega arith) ∙ moved_apart p d z;
  }

  -- a waiting frame is given a value: it had d operands
  pub top-given : (d : ℕ) (v : Value) → d ≡ get_or t.frames (row + 3) 0 → d < 16
      → FillsTask k (with_value (frame_in t.frames k m) v ∷ under)
      t (suc m) (put_operand row (set t.frames (row + 3) (d + 1)) d v)
  unfolding put_frame_in frame_in put_operand
  top-given d v q l =
      let e : d + 1 ≡ suc d = omega arith in
      rw e (record {
        count = ap suc under-count;
        cells =
            write_stack-above (put_frame_in k) (frame_in t.frames k) t.frames (frame_in-same t.frames k) m
            (with_value (frame_in t.frames k m) v)
            ∙ frame-given t.frames row d v q;
        apart = λ z.
            unread-value reported 0 1664 unreported (set t.frames (row + 3) (suc d)) (row + (20 + 2 * d)) v (omega arith) (omega arith)
            ∙ unreported t.frames (row + 3) (suc d) (omega arith) (omega arith);
      })

  -- a frame entered above the one that moved on
  pub top-entered : (p d : ℕ) (f : Frame) → suc m < 32 → length f.operands ≤ 16 → length f.locals ≤ 8
      → FillsTask k (f ∷ frame_of t.frames row p d ∷ under) t (suc (suc m)) (put_frame (moved t.frames row p d) (frame_base k (suc m)) f)
  unfolding put_frame_in
  top-entered p d f l a c = record {
    count = ap (λ (z : ℕ). suc (suc z)) under-count;
    cells =
        write_stack-two (put_frame_in k) (frame_in t.frames k) t.frames (frame_in-same t.frames k) m (frame_of t.frames row p d) f
        ∙ ap (λ (s : List ℕ). put_frame s (frame_base k (suc m)) f) (frame-kept t.frames row p d);
    apart = λ z.
        unread-frame reported (frame_base k (suc m)) 1664 (report-unread (count_at t 7) (frame_base k (suc m))) f (omega arith) (omega arith) (omega arith)
        (moved t.frames row p d)
        ∙ moved_apart p d z;
  }

-- a first frame
pub first-entered : (t : Tables) (k : ℕ) (f : Frame) → length f.operands ≤ 16 → length f.locals ≤ 8
    → FillsTask k (f ∷ []) t 1 (put_frame t.frames (frame_base k 0) f)
unfolding stack
first-entered t k f a c = top-fill t k 0 (omega arith) f a c

-- What the calls read

module _ (t : Tables) where
  pub class-there : (c : ℕ) → c < count_at t 0 → get_elem? (view_base t).classes c ≡ some (class_at (kept_of t) (class_row_at t.classes c))
  class-there c l =
      rw (rows-map (class_at (kept_of t)) (class_row_at t.classes) (count_at t 0) 0) (rows-there (λ i. class_at (kept_of t) (class_row_at t.classes i)) (count_at t 0) c l)

  pub class-past : (c : ℕ) → count_at t 0 ≤ c → get_elem? (view_base t).classes c ≡ none
  class-past c l =
      rw (rows-map (class_at (kept_of t)) (class_row_at t.classes) (count_at t 0) 0) (rows-past (λ i. class_at (kept_of t) (class_row_at t.classes i)) (count_at t 0) 0 c l)

  pub class-count : length (view_base t).classes ≡ count_at t 0
  class-count = length-map (class_rows_of t) (class_at (kept_of t)) ∙ (classes-fill t).count

  -- an object exists if its row has been used and has an owner
  pub object-there : (b : Base) (o : ℕ) → o < count_at t 5 → 0 < owner_at t.counts o → existing (objects_of b t) o ≡ some (object_at b t.objects o)
  unfolding existing objects_of object_row_at object_held owned_by
  object-there b o l u = rw (rows-there (object_row_at b t.counts t.objects) (count_at t 5) o l, existing) (held (owner_at t.counts o) u)
    where
      held : (w : ℕ) → 0 < w → object_held (owned_by w (object_at b t.objects o)) ≡ some (object_at b t.objects o)
      held zero h = absurd (omega arith)
      held (suc k) h = refl

  pub object-past : (b : Base) (o : ℕ) → count_at t 5 ≤ o → existing (objects_of b t) o ≡ none
  unfolding existing objects_of
  object-past b o l = rw (rows-past (object_row_at b t.counts t.objects) (count_at t 5) 0 o l, existing) refl

  -- a row's owner is that of its cell
  pub row-owner : (b : Base) (o : ℕ) (x : ObjectRow) → get_elem? (objects_of b t) o ≡ some x → owner_of x ≡ owner_at t.counts o
  row-owner b o x e = go (ltb o (count_at t 5)) refl
    where
      Row : ℕ → ObjectRow
      Row = object_row_at b t.counts t.objects

      go : (u : Bool) → ltb o (count_at t 5) ≡ u → owner_of x ≡ owner_at t.counts o
      go true l =
          let there : get_elem? (objects_of b t) o ≡ some (Row o) = unfold objects_of in rows-there Row (count_at t 5) o (ltb-true o (count_at t 5) l) in
          let same : Row o ≡ x = some-injective (Row o) x (sym there ∙ e) in
          ap owner_of (sym same) ∙ (unfold object_row_at in owner-is (owner_at t.counts o) (object_at b t.objects o))
      go false l =
          let past : get_elem? (objects_of b t) o ≡ none = unfold objects_of in rows-past Row (count_at t 5) 0 o (ltb-false o (count_at t 5) l) in
          absurd (none-ne-some x (sym past ∙ e))

  pub object-free : (b : Base) (o : ℕ) → owner_at t.counts o ≡ 0 → existing (objects_of b t) o ≡ none
  unfolding existing objects_of object_row_at object_held owned_by
  object-free b o e = go (ltb o (count_at t 5)) refl
    where
      go : (u : Bool) → ltb o (count_at t 5) ≡ u → existing (objects_of b t) o ≡ none
      go true h = rw (rows-there (object_row_at b t.counts t.objects) (count_at t 5) o (ltb-true o (count_at t 5) h), existing, e) refl
      go false h = object-past b o (ltb-false o (count_at t 5) h)

  -- a task's frames: none, or the top frame and those under it
  pub frames-none : (k : ℕ) → count_at t (6 + k) ≡ 0 → frames_of t k ≡ []
  unfolding frames_of stack
  frames-none k e = rw e

  pub frames-top : (k m : ℕ) → count_at t (6 + k) ≡ suc m → frames_of t k ≡ frame_in t.frames k m ∷ stack (frame_in t.frames k) m
  unfolding frames_of stack
  frames-top k m e = rw e
