-- What putting rows leaves: every cell that holds none of them stays as it was, in every table, whatever the rows and the tables are.
use Rattle.std.specs.Prelude.{◌≡◌, ◌⊎◌, get_or, set, leb, ltb, Bool, true, false}
use Rattle.std.proofs.Math.Path.{refl}
use Rattle.std.proofs.Common.{sym, ap, ◌∙◌, inl, inr, length-set, leb-true, leb-false, ltb-true, ltb-false}
use Rattle.std.proofs.Math.Option.{none, some, some-injective, none-ne-some}
use mathlib.Core.List.{List, [], ◌∷◌}
use Prim.Native.Nat.{ℕ, suc, ◌+◌, ◌-◌, ◌*◌, ◌<◌, ◌≤◌}
use native.Mathlib.Omega.{arith}
use Rattle.std.proofs.Math.ListN.{length, get_elem?}
use Rattle.std.proofs.Math.Seq.{get_or-set_other}
use Rattle.definition.specs.Numbers.{owners_cell, tie_numbers_cell, subtype_numbers_cell, loads_cell, trace_cell, level_cells, groups_cell, field_limit, frame_limit, operand_limit, local_count, row_cells, value_cells, object_cells, fields_cell, frame_cells, method_cell, point_cell, depth_cell, locals_cell, operands_cell}
use Rattle.definition.specs.Lists.{write_rows, write_stack}
use Rattle.definition.specs.Constraints.{Tie}
use Rattle.definition.specs.Groups.{groups_of}
use Rattle.definition.specs.Machine.{Object, ObjectRow, free, owned, Objects, existing, Exists, Frame}
use Rattle.definition.specs.Tables.{Tables, RowNumbers, Level, Rows, world_of, put_three, put_class_row, put_entry, put_tie, put_subtype, put_field, put_object, owner_of, put_owner, put_object_row, put_local, put_operand, put_frame, frame_base, put_frame_in, counts_of, put_number, put_numbers, put_trace, put_groups, put}
use Rattle.laws.specs.Growth.{nth-lt}
use Rattle.laws.specs.Objects.{existing-owned, exists_lt}
use Rattle.layout.specs.Tests.{All, all_more}
use Rattle.layout.specs.Places.{write_rows-length, write_stack-length}
use Rattle.layout.specs.Rows.{class-rows, entry-rows, tie-rows, subtype-rows}
use Rattle.layout.specs.Values.{put_value-cell}
use Rattle.layout.specs.OwnedRows.{put_owner-length, put_object_row-length}
use Rattle.layout.specs.NumberedRows.{put_numbers-length}
use Rattle.layout.specs.TracedRows.{put_trace-length, put_trace-before, put_trace-behind}
use Rattle.layout.specs.GroupedRows.{groups-length, put_groups-length}
use Rattle.layout.specs.FrameRows.{put_frame-length}
use Rattle.layout.specs.Whole.{Framed, Whole}
use Rattle.layout.specs.ReadBack.{size_small}
use Rattle.unbroken.specs.Steps.{all-nth, object-at}

-- Cells that a row holds

-- j is one of the n cells from cell b on
pub record Among (b n j : ℕ) : Type 0 where
  pub from : b ≤ j
  pub to : j < b + n

-- object x in row o: its class, then two cells a value
abbrev pub HeldByObject : ℕ → Object → ℕ → Type 0
HeldByObject o x j = Among (o * object_cells) (fields_cell + value_cells * length x.values) j

-- frame f in the row that begins at cell b: class, method, point, operand count and two cells a local; from its operands' first cell on, two cells an operand
abbrev pub HeldByFrame : ℕ → Frame → ℕ → Type 0
HeldByFrame b f j = Among b (locals_cell + value_cells * length f.locals) j ⊎ Among (b + operands_cell) (value_cells * length f.operands) j

-- frames of task k, the top frame first; the first frame, which is the last of the list, lies in the task's row 0
abbrev pub HeldByTask : ℕ → List Frame → ℕ → Type 0
HeldByTask k fs j = (n : ℕ) × (f : Frame) × (get_elem? fs n ≡ some f) × HeldByFrame (frame_base k (length fs - suc n)) f j

-- objects that exist; a free row holds nothing
abbrev pub HeldByObjects : Objects → ℕ → Type 0
HeldByObjects os j = (o : ℕ) × (x : Object) × (existing os o ≡ some x) × HeldByObject o x j

-- The claim

pub record SameLengths (t u : Tables) : Type 0 where
  pub counts : length u.counts ≡ length t.counts
  pub classes : length u.classes ≡ length t.classes
  pub kept : length u.kept ≡ length t.kept
  pub cache : length u.cache ≡ length t.cache
  pub ties : length u.ties ≡ length t.ties
  pub subtypes : length u.subtypes ≡ length t.subtypes
  pub objects : length u.objects ≡ length t.objects
  pub frames : length u.frames ≡ length t.frames

-- rows r put into the tables t change no length, and no cell but the eight counts, the owners of so many rows of objects, the numbers of so many ties and subtype
-- constraints, the count of loads that can be taken back and their levels, the groups of so many ties, the cells of so many other rows, and the cells that an
-- object or a frame holds
pub record Leaves (r : Rows) (t : Tables) : Type 0 where
  pub lengths : SameLengths t (put r t)
  pub counts : (j : ℕ) → owners_cell + length r.objects ≤ j → (Among tie_numbers_cell (length r.numbers.ties) j → ⊥) → (Among subtype_numbers_cell (length r.numbers.subtypes) j → ⊥)
      → (Among loads_cell (1 + length r.trace * level_cells) j → ⊥) → (Among groups_cell (length r.ties) j → ⊥)
      → get_or (put r t).counts j 0 ≡ get_or t.counts j 0
  pub classes : (j : ℕ) → length r.classes * row_cells ≤ j → get_or (put r t).classes j 0 ≡ get_or t.classes j 0
  pub kept : (j : ℕ) → length r.kept ≤ j → get_or (put r t).kept j 0 ≡ get_or t.kept j 0
  pub cache : (j : ℕ) → length r.cache * row_cells ≤ j → get_or (put r t).cache j 0 ≡ get_or t.cache j 0
  pub ties : (j : ℕ) → length r.ties * row_cells ≤ j → get_or (put r t).ties j 0 ≡ get_or t.ties j 0
  pub subtypes : (j : ℕ) → length r.subtypes * row_cells ≤ j → get_or (put r t).subtypes j 0 ≡ get_or t.subtypes j 0
  pub objects : (j : ℕ) → (HeldByObjects r.objects j → ⊥) → get_or (put r t).objects j 0 ≡ get_or t.objects j 0
  pub frames : (j : ℕ) → (HeldByTask 0 r.quote j → ⊥) → (HeldByTask 1 r.report j → ⊥) → get_or (put r t).frames j 0 ≡ get_or t.frames j 0

-- Rows and stacks of which none touches cell j

module _ {A : Type 0} (p : List ℕ → ℕ → A → List ℕ) (j : ℕ) where
  rows-spare : (xs : List A) (i : ℕ) → ((n : ℕ) (x : A) → get_elem? xs n ≡ some x → (s : List ℕ) → get_or (p s (i + n) x) j 0 ≡ get_or s j 0)
      → (t : List ℕ) → get_or (write_rows p xs i t) j 0 ≡ get_or t j 0
  unfolding write_rows
  rows-spare [] i h t = refl
  rows-spare (x ∷ xs) i h t =
      let e : i + 0 ≡ i = omega arith in
      (rw e at (h 0 x refl (write_rows p xs (suc i) t)))
      ∙ rows-spare xs (suc i) (λ n y q s. let e : i + suc n ≡ suc i + n = omega arith in rw e at (h (suc n) y q s)) t

  stack-spare : (xs : List A) → ((n : ℕ) (x : A) → get_elem? xs n ≡ some x → (s : List ℕ) → get_or (p s (length xs - suc n) x) j 0 ≡ get_or s j 0)
      → (t : List ℕ) → get_or (write_stack p xs t) j 0 ≡ get_or t j 0
  unfolding write_stack
  stack-spare [] h t = refl
  stack-spare (x ∷ xs) h t =
      let e : suc (length xs) - 1 ≡ length xs = omega arith in
      (rw e at (h 0 x refl (write_stack p xs t)))
      ∙ stack-spare xs (λ n y q s. let e : suc (length xs) - suc (suc n) ≡ length xs - suc n = omega arith in rw e at (h (suc n) y q s)) t

-- single cells and rows of three

cells-spare : (xs : List ℕ) (j : ℕ) (t : List ℕ) → length xs ≤ j → get_or (write_rows set xs 0 t) j 0 ≡ get_or t j 0
cells-spare xs j t l = rows-spare set j xs 0 (λ n x q s. get_or-set_other s (0 + n) j x 0 (λ e. omega (arith, nth-lt xs n x q))) t

threes-spare : {A : Type 0} (a b c : A → ℕ) (xs : List A) (j : ℕ) (t : List ℕ) → length xs * row_cells ≤ j
    → get_or (write_rows (λ s i x. put_three s i (a x) (b x) (c x)) xs 0 t) j 0 ≡ get_or t j 0
threes-spare {A} a b c xs j t l = rows-spare (λ s i x. put_three s i (a x) (b x) (c x)) j xs 0 (λ n x q s. row (0 + n) (omega (arith, nth-lt xs n x q)) x s) t
  where
    row : (i : ℕ) → i * row_cells + row_cells ≤ j → (x : A) (s : List ℕ) → get_or (put_three s i (a x) (b x) (c x)) j 0 ≡ get_or s j 0
    row i l x s =
        let s1 : List ℕ = set s (i * row_cells) (a x) in
        let s2 : List ℕ = set s1 (i * row_cells + 1) (b x) in
        get_or-set_other s2 (i * row_cells + 2) j (c x) 0 (λ e. omega arith) ∙ (get_or-set_other s1 (i * row_cells + 1) j (b x) 0 (λ e. omega arith) ∙ get_or-set_other s (i * row_cells) j (a x) 0 (λ e. omega arith))

-- objects

object-spare : (s : List ℕ) (o : ℕ) (x : Object) (j : ℕ) → (HeldByObject o x j → ⊥) → get_or (put_object s o x) j 0 ≡ get_or s j 0
unfolding put_object put_field
object-spare s o x j h =
    rows-spare (put_field o) j x.values 0 (λ n v q u.
    let l = nth-lt x.values n v q in
    put_value-cell u (o * object_cells + (fields_cell + value_cells * (0 + n))) v j (λ e. h (record { from = omega arith; to = omega arith })) (λ e. h (record { from = omega arith; to = omega arith })))
    (set s (o * object_cells) x.class)
    ∙ get_or-set_other s (o * object_cells) j x.class 0 (λ e. h (record { from = omega arith; to = omega arith }))

-- a row of objects, and an owner

row-spare : (s : List ℕ) (o : ℕ) (x : ObjectRow) (j : ℕ) → ((k : ℕ) (y : Object) → x ≡ owned k y → HeldByObject o y j → ⊥) → get_or (put_object_row s (0 + o) x) j 0 ≡ get_or s j 0
unfolding put_object_row
row-spare s o free j h = refl
row-spare s o (owned k y) j h = object-spare s (0 + o) y j (λ a. h k y refl (record { from = omega (arith, a.from); to = omega (arith, a.to) }))

owners-spare : (os : Objects) (j : ℕ) (t : List ℕ) → owners_cell + length os ≤ j → get_or (write_rows put_owner os 0 t) j 0 ≡ get_or t j 0
owners-spare os j t l = rows-spare put_owner j os 0 (λ n x q s. (unfold put_owner in get_or-set_other s (owners_cell + (0 + n)) j (owner_of x) 0 (λ e. omega (arith, nth-lt os n x q)))) t

-- the numbers of rows

section-spare : (b : ℕ) (xs : List ℕ) (j : ℕ) → (Among b (length xs) j → ⊥) → (t : List ℕ) → get_or (write_rows (put_number b) xs 0 t) j 0 ≡ get_or t j 0
section-spare b xs j h t =
    rows-spare (put_number b) j xs 0 (λ n x q s. (unfold put_number in get_or-set_other s (b + (0 + n)) j x 0
    (λ e. h (record { from = omega arith; to = omega (arith, nth-lt xs n x q) })))) t

numbers-spare : (ns : RowNumbers) (j : ℕ) → (Among tie_numbers_cell (length ns.ties) j → ⊥) → (Among subtype_numbers_cell (length ns.subtypes) j → ⊥)
    → (t : List ℕ) → get_or (put_numbers ns t) j 0 ≡ get_or t j 0
unfolding put_numbers
numbers-spare ns j a b t =
    section-spare tie_numbers_cell ns.ties j a (write_rows (put_number subtype_numbers_cell) ns.subtypes 0 t) ∙ section-spare subtype_numbers_cell ns.subtypes j b t

-- groups

groups-spare : (ts : List Tie) (ns : List ℕ) (j : ℕ) → (Among groups_cell (length ts) j → ⊥) → (t : List ℕ) → get_or (put_groups ts ns t) j 0 ≡ get_or t j 0
unfolding put_groups
groups-spare ts ns j h t = section-spare groups_cell (groups_of ts ns) j (λ a. h (record { from = a.from; to = omega (arith, a.to, groups-length ts ns) })) t

-- the trace

trace-spare : (ls : List Level) (j : ℕ) → (Among loads_cell (1 + length ls * level_cells) j → ⊥) → (t : List ℕ) → get_or (put_trace ls t) j 0 ≡ get_or t j 0
trace-spare ls j h t = go (ltb j loads_cell) refl
  where
    go : (u : Bool) → ltb j loads_cell ≡ u → get_or (put_trace ls t) j 0 ≡ get_or t j 0
    go true e = put_trace-before ls t j (ltb-true j loads_cell e)
    go false e = put_trace-behind ls t j (past (leb (trace_cell + length ls * level_cells) j) refl)
      where
        past : (u : Bool) → leb (trace_cell + length ls * level_cells) j ≡ u → trace_cell + length ls * level_cells ≤ j
        past true x = leb-true _ _ x
        past false x = absurd (h (record { from = ltb-false j loads_cell e; to = omega (arith, leb-false (trace_cell + length ls * level_cells) j x) }))

-- frames

frame-spare : (s : List ℕ) (b : ℕ) (f : Frame) (j : ℕ) → (HeldByFrame b f j → ⊥) → get_or (put_frame s b f) j 0 ≡ get_or s j 0
unfolding put_frame put_operand put_local
frame-spare s b f j h =
    let d : ℕ = length f.operands in
    let t0 : List ℕ = set s b f.class in
    let t1 : List ℕ = set t0 (b + method_cell) f.method in
    let t2 : List ℕ = set t1 (b + point_cell) f.point in
    let t3 : List ℕ = set t2 (b + depth_cell) d in
    stack-spare (put_operand b) j f.operands (λ n v q u.
    let l = nth-lt f.operands n v q in
    put_value-cell u (b + (operands_cell + value_cells * (d - suc n))) v j (λ e. h (inr (record { from = omega arith; to = omega arith }))) (λ e. h (inr (record { from = omega arith; to = omega arith }))))
    (write_rows (put_local b) f.locals 0 t3)
    ∙ (rows-spare (put_local b) j f.locals 0 (λ n v q u.
    let l = nth-lt f.locals n v q in
    put_value-cell u (b + (locals_cell + value_cells * (0 + n))) v j (λ e. h (inl (record { from = omega arith; to = omega arith }))) (λ e. h (inl (record { from = omega arith; to = omega arith }))))
    t3
    ∙ (get_or-set_other t2 (b + depth_cell) j d 0 (λ e. h (inl (record { from = omega arith; to = omega arith })))
    ∙ (get_or-set_other t1 (b + point_cell) j f.point 0 (λ e. h (inl (record { from = omega arith; to = omega arith })))
    ∙ (get_or-set_other t0 (b + method_cell) j f.method 0 (λ e. h (inl (record { from = omega arith; to = omega arith })))
    ∙ get_or-set_other s b j f.class 0 (λ e. h (inl (record { from = omega arith; to = omega arith })))))))

task-spare : (k : ℕ) (fs : List Frame) (j : ℕ) → (HeldByTask k fs j → ⊥) → (t : List ℕ) → get_or (write_stack (put_frame_in k) fs t) j 0 ≡ get_or t j 0
unfolding put_frame_in
task-spare k fs j h t = stack-spare (put_frame_in k) j fs (λ n f q s. frame-spare s (frame_base k (length fs - suc n)) f j (λ x. h (n, f, q, x))) t

-- every other cell stays
pub untouched : (r : Rows) (t : Tables) → Leaves r t
unfolding put counts_of put_class_row put_entry put_tie put_subtype put_frame_in
untouched r t = record {
  lengths = record {
    counts =
        put_groups-length r.ties r.numbers.ties (put_trace r.trace (put_numbers r.numbers (write_rows put_owner r.objects 0 (write_rows set (counts_of r) 0 t.counts))))
        ∙ (put_trace-length r.trace (put_numbers r.numbers (write_rows put_owner r.objects 0 (write_rows set (counts_of r) 0 t.counts)))
        ∙ (put_numbers-length r.numbers (write_rows put_owner r.objects 0 (write_rows set (counts_of r) 0 t.counts))
        ∙ (write_rows-length put_owner put_owner-length r.objects 0 (write_rows set (counts_of r) 0 t.counts)
        ∙ write_rows-length set length-set (counts_of r) 0 t.counts)));
    classes = write_rows-length put_class_row class-rows.long r.classes 0 t.classes;
    kept = write_rows-length set length-set r.kept 0 t.kept;
    cache = write_rows-length put_entry entry-rows.long r.cache 0 t.cache;
    ties = write_rows-length put_tie tie-rows.long r.ties 0 t.ties;
    subtypes = write_rows-length put_subtype subtype-rows.long r.subtypes 0 t.subtypes;
    objects = write_rows-length put_object_row put_object_row-length r.objects 0 t.objects;
    frames =
        write_stack-length (put_frame_in 1) (λ s i f. put_frame-length s (frame_base 1 i) f) r.report (write_stack (put_frame_in 0) r.quote t.frames)
        ∙ write_stack-length (put_frame_in 0) (λ s i f. put_frame-length s (frame_base 0 i) f) r.quote t.frames;
  };
  counts = λ j l a b c d.
      groups-spare r.ties r.numbers.ties j d (put_trace r.trace (put_numbers r.numbers (write_rows put_owner r.objects 0 (write_rows set (counts_of r) 0 t.counts))))
      ∙ (trace-spare r.trace j c (put_numbers r.numbers (write_rows put_owner r.objects 0 (write_rows set (counts_of r) 0 t.counts)))
      ∙ (numbers-spare r.numbers j a b (write_rows put_owner r.objects 0 (write_rows set (counts_of r) 0 t.counts))
      ∙ (owners-spare r.objects j (write_rows set (counts_of r) 0 t.counts) l ∙ cells-spare (counts_of r) j t.counts (omega arith))));
  classes = λ j l. threes-spare (λ k. k.loader) (λ k. k.start) (λ k. k.size) r.classes j t.classes l;
  kept = λ j l. cells-spare r.kept j t.kept l;
  cache = λ j l. threes-spare (λ e. e.request.loader) (λ e. e.request.name) (λ e. e.class) r.cache j t.cache l;
  ties = λ j l. threes-spare (λ e. e.one) (λ e. e.two) (λ e. e.name) r.ties j t.ties l;
  subtypes = λ j l. threes-spare (λ e. e.loader) (λ e. e.low) (λ e. e.high) r.subtypes j t.subtypes l;
  objects = λ j h. rows-spare put_object_row j r.objects 0 (λ o x q s. row-spare s o x j (λ k y e a. h (o, y, existing-owned r.objects o k y (q ∙ ap some e), a))) t.objects;
  frames = λ j a b. task-spare 1 r.report j b (write_stack (put_frame_in 0) r.quote t.frames) ∙ task-spare 0 r.quote j a t.frames;
}

-- Row by row, where rows have room for what they hold: a row that holds nothing stays, a free row of objects too, and so do the cells of a used row
-- past an object's values and past a frame's operands

pub record FrameRoom (f : Frame) : Type 0 where
  pub locals : length f.locals ≤ local_count
  pub operands : length f.operands ≤ operand_limit

pub record Room (r : Rows) : Type 0 where
  pub values : (o : ℕ) (x : Object) → existing r.objects o ≡ some x → length x.values ≤ field_limit
  pub many : length r.quote ≤ frame_limit
  pub quote : All FrameRoom r.quote
  pub report : All FrameRoom r.report

pub whole_room : (r : Rows) → Whole r → Room r
whole_room r w = record {
  values = λ o x e.
      let h = object-at (world_of r).base (length r.classes) (Exists r.objects) r.objects w.objects o x e in
      omega (arith, h.size, size_small r.cache r.kept r.classes w.classes x.class h.class);
  many = w.limits.quote;
  quote = all_more framed r.quote w.quote;
  report = all_more framed r.report w.report;
}
  where
    framed : (f : Frame) → Framed (length r.classes) (Exists r.objects) f → FrameRoom f
    framed f h = record { locals = omega (arith, h.eight); operands = h.depth }

pub record LeavesRows (r : Rows) (t : Tables) : Type 0 where
  pub objects : (j : ℕ) → length r.objects * object_cells ≤ j → get_or (put r t).objects j 0 ≡ get_or t.objects j 0
  pub values : (o c : ℕ) (x : Object) → existing r.objects o ≡ some x → fields_cell + value_cells * length x.values ≤ c → c < object_cells
      → get_or (put r t).objects (o * object_cells + c) 0 ≡ get_or t.objects (o * object_cells + c) 0
  pub free : (o c : ℕ) → existing r.objects o ≡ none → c < object_cells → get_or (put r t).objects (o * object_cells + c) 0 ≡ get_or t.objects (o * object_cells + c) 0
  pub quote : (j : ℕ) → length r.quote * frame_cells ≤ j → j < frame_limit * frame_cells → get_or (put r t).frames j 0 ≡ get_or t.frames j 0
  pub report : (j : ℕ) → frame_limit * frame_cells + length r.report * frame_cells ≤ j → get_or (put r t).frames j 0 ≡ get_or t.frames j 0
  pub quote_operands : (n c : ℕ) (f : Frame) → get_elem? r.quote n ≡ some f → operands_cell + value_cells * length f.operands ≤ c → c < frame_cells
      → get_or (put r t).frames (frame_base 0 (length r.quote - suc n) + c) 0 ≡ get_or t.frames (frame_base 0 (length r.quote - suc n) + c) 0
  pub report_operands : (n c : ℕ) (f : Frame) → get_elem? r.report n ≡ some f → operands_cell + value_cells * length f.operands ≤ c → c < frame_cells
      → get_or (put r t).frames (frame_base 1 (length r.report - suc n) + c) 0 ≡ get_or t.frames (frame_base 1 (length r.report - suc n) + c) 0

-- a frame holds a part of its row
frame-held : (b : ℕ) (f : Frame) (j : ℕ) → FrameRoom f → HeldByFrame b f j → Among b (operands_cell + value_cells * length f.operands) j
frame-held b f j h (inl a) = record { from = a.from; to = omega (arith, a.to, h.locals) }
frame-held b f j h (inr a) = record { from = omega (arith, a.from); to = omega (arith, a.to) }

-- what a task holds lies in a row of one of its frames
record InRow (k : ℕ) (fs : List Frame) (j : ℕ) : Type 0 where
  place : ℕ
  frame : Frame
  there : get_elem? fs place ≡ some frame
  less : place < length fs
  cells : Among (frame_base k (length fs - suc place)) (operands_cell + value_cells * length frame.operands) j
  few : length frame.operands ≤ operand_limit

task-held : (k : ℕ) (fs : List Frame) (j : ℕ) → All FrameRoom fs → HeldByTask k fs j → InRow k fs j
task-held k fs j h x =
    let room : FrameRoom x.1 = all-nth FrameRoom fs h x.0 x.1 x.2 in
    record {
      place = x.0;
      frame = x.1;
      there = x.2;
      less = nth-lt fs x.0 x.1 x.2;
      cells = frame-held (frame_base k (length fs - suc x.0)) x.1 j room x.3;
      few = room.operands;
    }

-- past the operands of the frame in its own row nothing of the task lies
past-operands : (k : ℕ) (fs : List Frame) (n c : ℕ) (f : Frame) → All FrameRoom fs → get_elem? fs n ≡ some f → operands_cell + value_cells * length f.operands ≤ c → c < frame_cells
    → HeldByTask k fs (frame_base k (length fs - suc n) + c) → ⊥
past-operands k fs n c f h q l m x =
    let y : InRow k fs (frame_base k (length fs - suc n) + c) = task-held k fs _ h x in
    let less : n < length fs = nth-lt fs n f q in
    let same : y.place ≡ n = omega (arith, y.less, y.cells.from, y.cells.to, y.few) in
    let z : y.frame ≡ f = some-injective y.frame f (sym y.there ∙ rw same q) in
    omega (arith, y.cells.to, ap (λ (g : Frame). length g.operands) z, same)

pub untouched-rows : (r : Rows) (t : Tables) → Room r → LeavesRows r t
untouched-rows r t h = record {
  objects = λ j l. all.objects j (λ x.
      omega (arith, x.3.to, exists_lt r.objects x.0 (x.1, x.2), h.values x.0 x.1 x.2));
  values = λ o c x q l m. all.objects (o * object_cells + c) (λ y.
      let few : length y.1.values ≤ field_limit = h.values y.0 y.1 y.2 in
      let same : y.0 ≡ o = omega (arith, y.3.from, y.3.to) in
      let z : y.1 ≡ x = some-injective y.1 x (sym y.2 ∙ rw same q) in
      omega (arith, y.3.to, ap (λ (g : Object). length g.values) z, same));
  free = λ o c q m. all.objects (o * object_cells + c) (λ y.
      let few : length y.1.values ≤ field_limit = h.values y.0 y.1 y.2 in
      let same : y.0 ≡ o = omega (arith, y.3.from, y.3.to) in
      none-ne-some y.1 (sym q ∙ (ap (existing r.objects) (sym same) ∙ y.2)));
  quote = λ j l m. all.frames j
      (λ x. let y : InRow 0 r.quote j = task-held 0 r.quote j h.quote x in omega (arith, y.cells.to, y.few, y.less))
      (λ x. let y : InRow 1 r.report j = task-held 1 r.report j h.report x in omega (arith, y.cells.from));
  report = λ j l. all.frames j
      (λ x. let y : InRow 0 r.quote j = task-held 0 r.quote j h.quote x in omega (arith, y.cells.to, y.few, y.less, h.many))
      (λ x. let y : InRow 1 r.report j = task-held 1 r.report j h.report x in omega (arith, y.cells.to, y.few, y.less));
  quote_operands = λ n c f q l m. all.frames (frame_base 0 (length r.quote - suc n) + c) (past-operands 0 r.quote n c f h.quote q l m)
      (λ x. let y : InRow 1 r.report _ = task-held 1 r.report _ h.report x in omega (arith, y.cells.from, nth-lt r.quote n f q, h.many));
  report_operands = λ n c f q l m. all.frames (frame_base 1 (length r.report - suc n) + c)
      (λ x. let y : InRow 0 r.quote _ = task-held 0 r.quote _ h.quote x in omega (arith, y.cells.to, y.few, y.less, h.many))
      (past-operands 1 r.report n c f h.report q l m);
}
  where
    all : Leaves r t
    all = untouched r t
