-- Rows whose numbers have their widths: rows that are read off tables of right widths are such rows, and whole rows that are such rows, put into
-- tables of right widths, leave tables of right widths. What a whole store bounds anyhow (class, object and loader numbers, kinds, places of files,
-- counts) isn't asked again.
use Rattle.std.specs.Prelude.{◌≡◌, refl, List, [], ◌∷◌, map, get_or}
use Rattle.std.proofs.Math.Option.{Option, none, some}
use Prim.Native.Nat.{ℕ, suc, zero, ◌+◌, ◌*◌, ◌<◌, ◌≤◌}
use native.Mathlib.Omega.{arith}
use Rattle.std.proofs.Math.ListN.{length, set}
use Rattle.std.proofs.Common.{leb-true}
use Rattle.definition.specs.Numbers.{tie_numbers_cell, subtype_numbers_cell, loads_cell, trace_cell, level_cells, groups_cell}
use Rattle.definition.specs.Lists.{write_rows, write_stack}
use Rattle.definition.specs.Requests.{Request, at}
use Rattle.definition.specs.Classes.{Base, Entry}
use Rattle.definition.specs.Constraints.{Tie, Subtype}
use Rattle.definition.specs.Groups.{group_of, cell_of, groups_of}
use Rattle.definition.specs.Machine.{Value, empty_value, int_value, null_value, object_value, unlisted_value, Object, Frame, ObjectRow, free, owned, Exists}
use Rattle.definition.specs.File.{File}
use Rattle.definition.specs.Tables.{Tables, ClassRow, Level, Rows, cut_to, put_level, put_trace, file_at, world_of, put_three, put_class_row, entry_at, put_entry, tie_at, put_tie, subtype_at, put_subtype, value_of, kind_of, bits_of, value_at, put_value, field_at, put_field, used_fields, object_at, put_object, local_at, put_local, operand_at, put_operand, frame_of, frame_at, put_frame, frame_base, frame_in, put_frame_in, view_base, objects_of, frames_of, view_over, view, counts_of, put, owned_by, owner_of, owner_at, put_owner, object_row_at, put_object_row, put_number, put_numbers, put_groups}
use Rattle.definition.specs.Widths.{EachBelow, Widths}
use Rattle.laws.specs.Groups.{group-lowest}
use Rattle.laws.specs.Options.{bind-some, need-true}
use Rattle.layout.specs.Tests.{All, all_more}
use Rattle.layout.specs.Places.{rows_all, stack-all}
use Rattle.layout.specs.Values.{bits-value}
use Rattle.layout.specs.InTurn.{numbers-below}
use Rattle.laws.specs.Objects.{exists_lt}
use Rattle.layout.specs.Traced.{EachTurn, Leaves, Traced}
use Rattle.unbroken.specs.Cut.{fewer}
use Rattle.unbroken.specs.Steps.{all-nth}
use Rattle.layout.specs.Whole.{Local, ValueSound, RowSound, Framed, Listed, Between, ClassSound, Classes, Whole}
use Rattle.widths.specs.Below.{all-zip, from_all, below-cell, below_set, below-read, each_all, below_rows, below-stack}

-- an int has 32 bits
abbrev pub IntFits : Value → Type 0
IntFits empty_value = Unit {0}
IntFits (int_value n) = n < 4294967296
IntFits null_value = Unit {0}
IntFits (object_value o) = Unit {0}
IntFits (unlisted_value k b) = Unit {0}

-- names have 16 bits
abbrev pub EntryFits : Entry → Type 0
EntryFits e = e.request.name < 65536

abbrev pub TieFits : Tie → Type 0
TieFits t = t.name < 65536

pub record SubtypeFits (s : Subtype) : Type 0 where
  pub low : s.low < 65536
  pub high : s.high < 65536

abbrev pub ObjectFits : Object → Type 0
ObjectFits o = All IntFits o.values

abbrev pub ObjectRowFits : ObjectRow → Type 0
ObjectRowFits free = Unit {0}
ObjectRowFits (owned k o) = ObjectFits o

pub record FrameFits (f : Frame) : Type 0 where
  pub method : f.method < 4294967296
  pub point : f.point < 4294967296
  pub operands : All IntFits f.operands
  pub locals : All IntFits f.locals

pub record RowsFit (r : Rows) : Type 0 where
  pub kept : EachBelow 256 r.kept
  pub cache : All EntryFits r.cache
  pub ties : All TieFits r.ties
  pub subtypes : All SubtypeFits r.subtypes
  pub objects : All ObjectRowFits r.objects
  pub quote : All FrameFits r.quote
  pub report : All FrameFits r.report

-- Rows read

bits_fit : (v : Value) → bits_of v < 4294967296 → IntFits v
unfolding bits_of
bits_fit empty_value h = tt
bits_fit (int_value n) h = h
bits_fit null_value h = tt
bits_fit (object_value o) h = tt
bits_fit (unlisted_value k b) h = tt

module _ (t : List ℕ) (h : EachBelow 4294967296 t) where
  cell : (i : ℕ) → get_or t i 0 < 4294967296
  cell i = below-cell 4294967296 t i (omega arith) h

  value_read : (i : ℕ) → IntFits (value_at t i)
  unfolding value_at
  value_read i = bits_fit (value_of (get_or t i 0) (get_or t (i + 1) 0)) (rw (bits-value (get_or t i 0) (get_or t (i + 1) 0)) (cell (i + 1)))

  object-read : (b : Base) (o : ℕ) → ObjectFits (object_at b t o)
  unfolding object_at field_at
  object-read b o = rows_all IntFits (field_at t o) (used_fields b (get_or t (o * 33) 0)) 0 (λ i _ _. value_read (o * 33 + (1 + 2 * i)))

  object-row-read : (b : Base) (n : List ℕ) (o : ℕ) → ObjectRowFits (object_row_at b n t o)
  unfolding object_row_at
  object-row-read b n o = go (owner_at n o)
    where
      go : (w : ℕ) → ObjectRowFits (owned_by w (object_at b t o))
      go zero = unfold owned_by in tt
      go (suc k) = unfold owned_by in object-read b o

  frame-read : (k i : ℕ) → FrameFits (frame_in t k i)
  unfolding frame_in frame_at frame_of local_at operand_at
  frame-read k i =
      let b : ℕ = frame_base k i in
      record {
        method = cell (b + 1);
        point = cell (b + 2);
        operands = stack-all IntFits (operand_at t b) (get_or t (b + 3) 0) (λ j _. value_read (b + (20 + 2 * j)));
        locals = rows_all IntFits (local_at t b) 8 0 (λ j _ _. value_read (b + (4 + 2 * j)));
      }

pub view-fits : (t : Tables) → Widths t → RowsFit (view t)
unfolding view view_over objects_of frames_of entry_at tie_at subtype_at
view-fits t w = record {
  kept = below-read 256 (λ i. get_or t.kept i 0) (λ i. below-cell 256 t.kept i (omega arith) w.kept) (get_or t.counts 1 0) 0;
  cache = rows_all EntryFits (entry_at t.cache) (get_or t.counts 2 0) 0 (λ i _ _. below-cell 65536 t.cache (i * 3 + 1) (omega arith) w.cache);
  ties = rows_all TieFits (tie_at t.ties) (get_or t.counts 3 0) 0 (λ i _ _. below-cell 65536 t.ties (i * 3 + 2) (omega arith) w.ties);
  subtypes = rows_all SubtypeFits (subtype_at t.subtypes) (get_or t.counts 4 0) 0 (λ i _ _. record {
    low = below-cell 65536 t.subtypes (i * 3 + 1) (omega arith) w.subtypes;
    high = below-cell 65536 t.subtypes (i * 3 + 2) (omega arith) w.subtypes;
  });
  objects = rows_all ObjectRowFits (object_row_at (view_base t) t.counts t.objects) (get_or t.counts 5 0) 0 (λ o _ _. object-row-read t.objects w.objects (view_base t) t.counts o);
  quote = stack-all FrameFits (frame_in t.frames 0) (get_or t.counts 6 0) (λ i _. frame-read t.frames w.frames 0 i);
  report = stack-all FrameFits (frame_in t.frames 1) (get_or t.counts 7 0) (λ i _. frame-read t.frames w.frames 1 i);
}

-- Rows put

-- three numbers below a bound
pub record Three (w a b c : ℕ) : Type 0 where
  pub first : a < w
  pub second : b < w
  pub third : c < w

below-threes : {A : Type 0} (w : ℕ) (a b c : A → ℕ) (xs : List A) (t : List ℕ) → All (λ x. Three w (a x) (b x) (c x)) xs → EachBelow w t
    → EachBelow w (write_rows (λ s i x. put_three s i (a x) (b x) (c x)) xs 0 t)
below-threes {A} w a b c xs t h k = below_rows w (λ s i x. put_three s i (a x) (b x) (c x)) (λ x. Three w (a x) (b x) (c x)) row xs 0 t h k
  where
    row : (s : List ℕ) (i : ℕ) (x : A) → Three w (a x) (b x) (c x) → EachBelow w s → EachBelow w (put_three s i (a x) (b x) (c x))
    row s i x f h =
        let s1 : List ℕ = set s (i * 3) (a x) in
        let s2 : List ℕ = set s1 (i * 3 + 1) (b x) in
        below_set w s2 (i * 3 + 2) (c x) (below_set w s1 (i * 3 + 1) (b x) (below_set w s (i * 3) (a x) h f.first) f.second) f.third

-- a class's row: where its file is kept
abbrev ClassRowFits : ClassRow → Type 0
ClassRowFits k = Three 65536 k.loader k.start k.size

file-inside : (bs : List ℕ) (k : ClassRow) (f : File) → file_at bs k ≡ some f → k.start + k.size ≤ length bs
unfolding file_at
file-inside bs k f e = leb-true _ _ (need-true _ (bind-some _ _ e).1)

class-rows-fit : (b : Base) (bs : List ℕ) (ks : List ClassRow) → length bs ≤ 16384 → Classes b bs ks → All ClassRowFits ks
class-rows-fit b bs [] l h = tt
class-rows-fit b bs (k ∷ ks) l h = (
  record { first = omega (arith, h.0.loader); second = omega (arith, h.0.start); third = omega (arith, h.0.size) },
  from_all (ClassSound b bs) ClassRowFits (λ c x s.
      let e = file-inside bs x s.file s.reads in
      record { first = omega (arith, s.loader); second = omega arith; third = omega arith }) 1 ks h.1,
)

-- a value's two cells
pub record CellsFit (v : Value) : Type 0 where
  pub kind : kind_of v < 4294967296
  pub bits : bits_of v < 4294967296

local-cells : (X : ℕ → Type 0) → ((o : ℕ) → X o → o < 256) → (v : Value) → Local X v → IntFits v → CellsFit v
unfolding kind_of bits_of
local-cells m l empty_value h f = record { kind = omega arith; bits = omega arith }
local-cells m l (int_value n) h f = record { kind = omega arith; bits = f }
local-cells m l null_value h f = record { kind = omega arith; bits = omega arith }
local-cells m l (object_value o) h f = record { kind = omega arith; bits = omega (arith, l o h) }
local-cells m l (unlisted_value k b) h f = absurd h

value-cells : (X : ℕ → Type 0) → ((o : ℕ) → X o → o < 256) → (v : Value) → ValueSound X v → IntFits v → CellsFit v
value-cells m l empty_value h f = absurd h
value-cells m l (int_value n) h f = local-cells m l (int_value n) h f
value-cells m l null_value h f = local-cells m l null_value h f
value-cells m l (object_value o) h f = local-cells m l (object_value o) h f
value-cells m l (unlisted_value k b) h f = absurd h

below-value : (t : List ℕ) (i : ℕ) (v : Value) → CellsFit v → EachBelow 4294967296 t → EachBelow 4294967296 (put_value t i v)
unfolding put_value
below-value t i v f h = below_set 4294967296 (set t i (kind_of v)) (i + 1) (bits_of v) (below_set 4294967296 t i (kind_of v) h f.kind) f.bits

-- an object's cells
pub record ObjectCells (o : Object) : Type 0 where
  pub class : o.class < 4294967296
  pub values : All CellsFit o.values

below-object : (t : List ℕ) (o : ℕ) (x : Object) → ObjectCells x → EachBelow 4294967296 t → EachBelow 4294967296 (put_object t o x)
unfolding put_object put_field
below-object t o x f h =
    below_rows 4294967296 (put_field o) CellsFit (λ s i v. below-value s (o * 33 + (1 + 2 * i)) v) x.values 0 (set t (o * 33) x.class) f.values
    (below_set 4294967296 t (o * 33) x.class h f.class)

abbrev pub ObjectRowCells : ObjectRow → Type 0
ObjectRowCells free = Unit {0}
ObjectRowCells (owned k o) = ObjectCells o

below-object-row : (t : List ℕ) (o : ℕ) (x : ObjectRow) → ObjectRowCells x → EachBelow 4294967296 t → EachBelow 4294967296 (put_object_row t o x)
unfolding put_object_row
below-object-row t o free f h = h
below-object-row t o (owned k x) f h = below-object t o x f h

-- an owner is a task's number and one
abbrev OwnerFits : ObjectRow → Type 0
OwnerFits free = Unit {0}
OwnerFits (owned k o) = k < 2

below-owner : (n : List ℕ) (o : ℕ) (x : ObjectRow) → OwnerFits x → EachBelow 65536 n → EachBelow 65536 (put_owner n o x)
unfolding put_owner owner_of
below-owner n o free f h = below_set 65536 n (8 + o) 0 h (omega arith)
below-owner n o (owned k x) f h = below_set 65536 n (8 + o) (suc k) h (omega arith)

-- a frame's cells
pub record FrameCells (f : Frame) : Type 0 where
  pub class : f.class < 4294967296
  pub method : f.method < 4294967296
  pub point : f.point < 4294967296
  pub depth : length f.operands < 4294967296
  pub operands : All CellsFit f.operands
  pub locals : All CellsFit f.locals

below-frame : (k : ℕ) (t : List ℕ) (i : ℕ) (f : Frame) → FrameCells f → EachBelow 4294967296 t → EachBelow 4294967296 (put_frame_in k t i f)
unfolding put_frame_in put_frame put_operand put_local
below-frame k t i f c h =
    let b : ℕ = frame_base k i in
    let t0 : List ℕ = set t b f.class in
    let t1 : List ℕ = set t0 (b + 1) f.method in
    let t2 : List ℕ = set t1 (b + 2) f.point in
    let t3 : List ℕ = set t2 (b + 3) (length f.operands) in
    let h0 : EachBelow 4294967296 t0 = below_set 4294967296 t b f.class h c.class in
    let h1 : EachBelow 4294967296 t1 = below_set 4294967296 t0 (b + 1) f.method h0 c.method in
    let h2 : EachBelow 4294967296 t2 = below_set 4294967296 t1 (b + 2) f.point h1 c.point in
    let h3 : EachBelow 4294967296 t3 = below_set 4294967296 t2 (b + 3) (length f.operands) h2 c.depth in
    below-stack 4294967296 (put_operand b) CellsFit (λ s j v. below-value s (b + (20 + 2 * j)) v) f.operands (write_rows (put_local b) f.locals 0 t3) c.operands
    (below_rows 4294967296 (put_local b) CellsFit (λ s j v. below-value s (b + (4 + 2 * j)) v) f.locals 0 t3 c.locals h3)

module _ (n : ℕ) (X : ℕ → Type 0) (few : n ≤ 64) (room : (o : ℕ) → X o → o < 256) where
  object-cells : (b : Base) (x : ObjectRow) → RowSound b n X x → ObjectRowFits x → ObjectRowCells x
  object-cells b free s f = tt
  object-cells b (owned k o) s f = record { class = omega (arith, s.1.class); values = all-zip (ValueSound X) IntFits CellsFit (value-cells X room) o.values s.1.values f }

  row-owner : (b : Base) (x : ObjectRow) → RowSound b n X x → OwnerFits x
  row-owner b free s = tt
  row-owner b (owned k o) s = s.0

  frame-cells : (f : Frame) → Framed n X f → FrameFits f → FrameCells f
  frame-cells f s h = record {
    class = omega (arith, s.class);
    method = h.method;
    point = h.point;
    depth = omega (arith, s.depth);
    operands = all-zip (ValueSound X) IntFits CellsFit (value-cells X room) f.operands s.operands h.operands;
    locals = all-zip (Local X) IntFits CellsFit (local-cells X room) f.locals s.locals h.locals;
  }

-- A level has its widths where the rows have: it lies under them

pub record LevelFits (l : Level) : Type 0 where
  pub classes : l.classes < 65536
  pub kept : l.kept < 65536
  pub cache : l.cache < 65536
  pub ties : l.ties < 65536
  pub subtypes : l.subtypes < 65536

record Short (r : Rows) : Type 0 where
  classes : length r.classes < 65536
  kept : length r.kept < 65536
  cache : length r.cache < 65536
  ties : length r.ties < 65536
  subtypes : length r.subtypes < 65536

cut_short : (l : Level) (r : Rows) → Short r → Short (cut_to l r)
unfolding cut_to
cut_short l r h = record {
  classes = omega (arith, fewer l.classes r.classes, h.classes);
  kept = omega (arith, fewer l.kept r.kept, h.kept);
  cache = omega (arith, fewer l.cache r.cache, h.cache);
  ties = omega (arith, fewer l.ties r.ties, h.ties);
  subtypes = omega (arith, fewer l.subtypes r.subtypes, h.subtypes);
}

levels-fit : (ls : List Level) (r : Rows) → Short r → EachTurn Leaves ls r → All LevelFits ls
levels-fit [] r h b = tt
levels-fit (l ∷ ls) r h b =
    let u = b.0.0 in (
      record {
        classes = omega (arith, u.classes, h.classes);
        kept = omega (arith, u.kept, h.kept);
        cache = omega (arith, u.cache, h.cache);
        ties = omega (arith, u.ties, h.ties);
        subtypes = omega (arith, u.subtypes, h.subtypes);
      },
      levels-fit ls (cut_to l r) (cut_short l r h) b.1,
    )

below-level : (t : List ℕ) (i : ℕ) (l : Level) → LevelFits l → EachBelow 65536 t → EachBelow 65536 (put_level t i l)
unfolding put_level
below-level t i l f h =
    let c : ℕ = trace_cell + i * level_cells in
    let t1 : List ℕ = set t c l.classes in
    let t2 : List ℕ = set t1 (c + 1) l.kept in
    let t3 : List ℕ = set t2 (c + 2) l.cache in
    let t4 : List ℕ = set t3 (c + 3) l.ties in
    below_set 65536 t4 (c + 4) l.subtypes (below_set 65536 t3 (c + 3) l.ties (below_set 65536 t2 (c + 2) l.cache
    (below_set 65536 t1 (c + 1) l.kept (below_set 65536 t c l.classes h f.classes) f.kept) f.cache) f.ties) f.subtypes

module _ (r : Rows) (s : Whole r) (f : RowsFit r) where
  abbrev N : ℕ
  N = length r.classes

  abbrev M : ℕ → Type 0
  M = Exists r.objects

  room : (o : ℕ) → M o → o < 256
  room o h = omega (arith, exists_lt r.objects o h, s.limits.objects)

  counts-cells : All (λ c. c < 65536) (counts_of r)
  unfolding counts_of
  counts-cells = let l = s.limits in (
    omega (arith, l.classes),
    (
      omega (arith, l.kept),
      (
        omega (arith, l.cache),
        (
          omega (arith, l.ties),
          (omega (arith, l.subtypes), (omega (arith, l.objects), (omega (arith, l.quote), (omega (arith, l.report), tt)))),
        ),
      ),
    ),
  )

  entries-cells : All (λ e. Three 65536 e.request.loader e.request.name e.class) r.cache
  entries-cells =
      all-zip (Listed N) EntryFits _ (λ e l x. record { first = omega (arith, l.loader); second = x; third = omega (arith, l.class, s.limits.classes) })
      r.cache s.cache f.cache

  ties-cells : All (λ e. Three 65536 e.one e.two e.name) r.ties
  ties-cells = all-zip Between TieFits _ (λ e l x. record { first = omega (arith, l.one); second = omega (arith, l.two); third = x }) r.ties s.ties f.ties

  subtypes-cells : All (λ e. Three 65536 e.loader e.low e.high) r.subtypes
  subtypes-cells =
      all-zip (λ e. e.loader < 16) SubtypeFits _ (λ e l x. record { first = omega (arith, l); second = x.low; third = x.high })
      r.subtypes s.subtypes f.subtypes

  objects-cells : All ObjectRowCells r.objects
  objects-cells =
      all-zip (RowSound (world_of r).base N M) ObjectRowFits ObjectRowCells (object-cells N M s.limits.classes room (world_of r).base)
      r.objects s.objects f.objects

  owners-cells : All OwnerFits r.objects
  owners-cells = all_more (row-owner N M s.limits.classes room (world_of r).base) r.objects s.objects

  frames-cells : (fs : List Frame) → All (Framed N M) fs → All FrameFits fs → All FrameCells fs
  frames-cells fs a b = all-zip (Framed N M) FrameFits FrameCells (frame-cells N M s.limits.classes room) fs a b

  -- the numbers of rows are below the count of rows
  numbered_below : (c : List ℕ) → EachBelow 65536 c → EachBelow 65536 (put_numbers r.numbers c)
  unfolding put_numbers put_number
  numbered_below c h =
      let b = numbers-below (length r.ties) (length r.subtypes) r.numbers s.numbers in
      let few : length r.ties + length r.subtypes ≤ 512 = omega (arith, s.limits.ties, s.limits.subtypes) in
      below_rows 65536 (put_number tie_numbers_cell) Small (λ u i x l k. below_set 65536 u (tie_numbers_cell + i) x k (omega arith)) r.numbers.ties 0 _ b.0
      (below_rows 65536 (put_number subtype_numbers_cell) Small (λ u i x l k. below_set 65536 u (subtype_numbers_cell + i) x k (omega arith)) r.numbers.subtypes 0 c b.1 h)
    where
      Small : ℕ → Type 0
      Small i = i < length r.ties + length r.subtypes

  -- the levels of the trace lie under the counts of rows
  traced-below : Traced r → (c : List ℕ) → EachBelow 65536 c → EachBelow 65536 (put_trace r.trace c)
  unfolding put_trace put_level
  traced-below b c h =
      let m = s.limits in
      let short : Short r = record {
        classes = omega (arith, m.classes);
        kept = omega (arith, m.kept);
        cache = omega (arith, m.cache);
        ties = omega (arith, m.ties);
        subtypes = omega (arith, m.subtypes);
      } in
      below-stack 65536 put_level LevelFits below-level r.trace (set c loads_cell (length r.trace)) (levels-fit r.trace r short b)
      (below_set 65536 c loads_cell (length r.trace) h (omega (arith, m.trace)))

  -- a group's number is that of a tie
  groups-cells : All (λ g. g < 65536) (groups_of r.ties r.numbers.ties)
  unfolding groups_of cell_of
  groups-cells = each r.ties
    where
      small : (o : Option ℕ) (a : Request) → group_of r.ties r.numbers.ties a ≡ o → cell_of o < 65536
      small none a e = omega arith
      small (some g) a e =
          let x = (group-lowest r.ties r.numbers.ties a g e).row in
          let b = (numbers-below (length r.ties) (length r.subtypes) r.numbers s.numbers).0 in
          let l : g < length r.ties + length r.subtypes = all-nth (λ i. i < length r.ties + length r.subtypes) r.numbers.ties b x.row g x.number in
          omega (arith, l, s.limits.ties, s.limits.subtypes)

      each : (us : List Tie) → All (λ g. g < 65536) (map (λ t. cell_of (group_of r.ties r.numbers.ties (at t.one t.name))) us)
      each [] = tt
      each (u ∷ us) = (small (group_of r.ties r.numbers.ties (at u.one u.name)) (at u.one u.name) refl, each us)

  grouped-below : (c : List ℕ) → EachBelow 65536 c → EachBelow 65536 (put_groups r.ties r.numbers.ties c)
  unfolding put_groups put_number
  grouped-below c h = below_rows 65536 (put_number groups_cell) (λ g. g < 65536) (λ u i x l k. below_set 65536 u (groups_cell + i) x k l) (groups_of r.ties r.numbers.ties) 0 c groups-cells h

  pub put-widths : Traced r → (t : Tables) → Widths t → Widths (put r t)
  unfolding put put_class_row put_entry put_tie put_subtype
  put-widths b t w =
      let quoted : EachBelow 4294967296 (write_stack (put_frame_in 0) r.quote t.frames) =
      below-stack 4294967296 (put_frame_in 0) FrameCells (below-frame 0) r.quote t.frames (frames-cells r.quote s.quote f.quote) w.frames in
      record {
        counts = grouped-below (put_trace r.trace (put_numbers r.numbers (write_rows put_owner r.objects 0 (write_rows set (counts_of r) 0 t.counts))))
            (traced-below b (put_numbers r.numbers (write_rows put_owner r.objects 0 (write_rows set (counts_of r) 0 t.counts)))
            (numbered_below (write_rows put_owner r.objects 0 (write_rows set (counts_of r) 0 t.counts))
            (below_rows 65536 put_owner OwnerFits below-owner r.objects 0 (write_rows set (counts_of r) 0 t.counts) owners-cells
            (below_rows 65536 set (λ c. c < 65536) (λ u i c l h. below_set 65536 u i c h l) (counts_of r) 0 t.counts counts-cells w.counts))));
        classes = below-threes 65536 (λ k. k.loader) (λ k. k.start) (λ k. k.size) r.classes t.classes
            (class-rows-fit (world_of r).base r.kept r.classes s.limits.kept s.classes) w.classes;
        kept = below_rows 256 set (λ c. c < 256) (λ u i c l h. below_set 256 u i c h l) r.kept 0 t.kept (each_all 256 r.kept f.kept) w.kept;
        cache = below-threes 65536 (λ e. e.request.loader) (λ e. e.request.name) (λ e. e.class) r.cache t.cache entries-cells w.cache;
        ties = below-threes 65536 (λ e. e.one) (λ e. e.two) (λ e. e.name) r.ties t.ties ties-cells w.ties;
        subtypes = below-threes 65536 (λ e. e.loader) (λ e. e.low) (λ e. e.high) r.subtypes t.subtypes subtypes-cells w.subtypes;
        objects = below_rows 4294967296 put_object_row ObjectRowCells below-object-row r.objects 0 t.objects objects-cells w.objects;
        frames = below-stack 4294967296 (put_frame_in 1) FrameCells (below-frame 1) r.report (write_stack (put_frame_in 0) r.quote t.frames)
            (frames-cells r.report s.report f.report) quoted;
      }
