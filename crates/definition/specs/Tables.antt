-- The store as lent tables: lengths, cells, and how the used rows are read and written. docs/STORE.md publishes this layout.
--
-- A store is spoken of at four levels. `Tables` are the cells as lent, unused ones too: what a caller holds and a contract determines. `Rows` are what
-- the used cells say (`view`; `put` writes them back): what a call decides on and changes. A `World` is what the rows say of classes, with the files
-- read, and of constraints (`world_of`): what agreement is asked of. A `Base` is the classes and the cache alone: what resolution looks at.
use Rattle.std.specs.Prelude.{Bool, List, [], ◌∷◌, map, ℕ, zero, suc, ◌+◌, ◌*◌, length, replicate, take, drop, get_or, set, eqb, leb}
use Rattle.std.proofs.Math.Option.{Option, none, some}
use Rattle.definition.specs.Numbers.{field_limit, frame_limit, local_count, count_classes, count_kept, count_cache, count_ties, count_subtypes, count_objects, count_frames, owners_cell, tie_numbers_cell, subtype_numbers_cell, loads_cell, trace_cell, level_cells, groups_cell, row_cells, value_cells, object_cells, fields_cell, frame_cells, method_cell, point_cell, depth_cell, locals_cell, operands_cell, counts_length, classes_length, kept_length, cache_length, ties_length, subtypes_length, objects_length, frames_length, kind_empty, kind_int, kind_null, kind_object}
use Rattle.definition.specs.Lists.{every, rows, write_rows, stack, write_stack}
use Rattle.definition.specs.Maybe.{◌>>=◌, need}
use Rattle.definition.specs.Requests.{at}
use Rattle.definition.specs.Classes.{Base, Class, Entry, slots}
use Rattle.definition.specs.Constraints.{Tie, Subtype, World}
use Rattle.definition.specs.Groups.{groups_of}
use Rattle.definition.specs.Instructions.{pick}
use Rattle.definition.specs.Machine.{Value, empty_value, int_value, null_value, object_value, unlisted_value, Object, ObjectRow, free, owned, Objects, Frame}
use Rattle.definition.specs.File.{File, read_file, class_of, object_class}

pub record Tables : Type 0 where
  pub counts : List ℕ
  pub classes : List ℕ
  pub kept : List ℕ
  pub cache : List ℕ
  pub ties : List ℕ
  pub subtypes : List ℕ
  pub objects : List ℕ
  pub frames : List ℕ

abbrev pub tables : List ℕ → List ℕ → List ℕ → List ℕ → List ℕ → List ℕ → List ℕ → List ℕ → Tables
tables n c k e t s o f = record { counts = n; classes = c; kept = k; cache = e; ties = t; subtypes = s; objects = o; frames = f }

-- the published lengths
unfoldable pub shaped : Tables → Bool
shaped t = every
    (eqb (length t.counts) counts_length
    ∷ eqb (length t.classes) classes_length
    ∷ eqb (length t.kept) kept_length
    ∷ eqb (length t.cache) cache_length
    ∷ eqb (length t.ties) ties_length
    ∷ eqb (length t.subtypes) subtypes_length
    ∷ eqb (length t.objects) objects_length
    ∷ eqb (length t.frames) frames_length
    ∷ [])

-- in a program each table starts as zeros, every row free
unfoldable pub zeros : Tables
zeros = tables
    (replicate counts_length 0) (replicate classes_length 0) (replicate kept_length 0) (replicate cache_length 0)
    (replicate ties_length 0) (replicate subtypes_length 0) (replicate objects_length 0) (replicate frames_length 0)

-- The store as rows. A class is its loader and where its file is kept, so that classes are always read off the kept files.

pub record ClassRow : Type 0 where
  pub loader : ℕ
  pub start : ℕ
  pub size : ℕ

-- The numbers of the rows of ties and of subtype constraints, each list in its table's order: rows are numbered from 0 as posted, both tables together.
pub record RowNumbers : Type 0 where
  pub ties : List ℕ
  pub subtypes : List ℕ

abbrev pub row_numbers : List ℕ → List ℕ → RowNumbers
row_numbers t s = record { ties = t; subtypes = s }

-- What taking back a load goes by: how many classes, kept bytes, cache entries, ties and subtype constraints there were before it. A load adds only behind these.
pub record Level : Type 0 where
  pub classes : ℕ
  pub kept : ℕ
  pub cache : ℕ
  pub ties : ℕ
  pub subtypes : ℕ

abbrev pub level : ℕ → ℕ → ℕ → ℕ → ℕ → Level
level c k e t s = record { classes = c; kept = k; cache = e; ties = t; subtypes = s }

-- `trace` has a level for each load that can be taken back, the latest first
pub record Rows : Type 0 where
  pub classes : List ClassRow
  pub kept : List ℕ
  pub cache : List Entry
  pub ties : List Tie
  pub subtypes : List Subtype
  pub objects : Objects
  pub quote : List Frame
  pub report : List Frame
  pub numbers : RowNumbers
  pub trace : List Level

abbrev pub rows_of : List ClassRow → List ℕ → List Entry → List Tie → List Subtype → Objects → List Frame → List Frame → RowNumbers → List Level → Rows
rows_of c k e t s o q p n b = record { classes = c; kept = k; cache = e; ties = t; subtypes = s; objects = o; quote = q; report = p; numbers = n; trace = b }

abbrev pub no_rows : Rows
no_rows = rows_of [] [] [] [] [] [] [] [] (row_numbers [] []) []

-- One part of the rows replaced, the rest as it was: a call names what it changes

abbrev pub with_classes : List ClassRow → Rows → Rows
with_classes x r = rows_of x r.kept r.cache r.ties r.subtypes r.objects r.quote r.report r.numbers r.trace

abbrev pub with_kept : List ℕ → Rows → Rows
with_kept x r = rows_of r.classes x r.cache r.ties r.subtypes r.objects r.quote r.report r.numbers r.trace

abbrev pub with_cache : List Entry → Rows → Rows
with_cache x r = rows_of r.classes r.kept x r.ties r.subtypes r.objects r.quote r.report r.numbers r.trace

abbrev pub with_ties : List Tie → Rows → Rows
with_ties x r = rows_of r.classes r.kept r.cache x r.subtypes r.objects r.quote r.report r.numbers r.trace

abbrev pub with_subtypes : List Subtype → Rows → Rows
with_subtypes x r = rows_of r.classes r.kept r.cache r.ties x r.objects r.quote r.report r.numbers r.trace

abbrev pub with_objects : Objects → Rows → Rows
with_objects x r = rows_of r.classes r.kept r.cache r.ties r.subtypes x r.quote r.report r.numbers r.trace

abbrev pub with_numbers : RowNumbers → Rows → Rows
with_numbers x r = rows_of r.classes r.kept r.cache r.ties r.subtypes r.objects r.quote r.report x r.trace

abbrev pub with_trace : List Level → Rows → Rows
with_trace x r = rows_of r.classes r.kept r.cache r.ties r.subtypes r.objects r.quote r.report r.numbers x

-- what is said of task k: 0 is the quote, any other the report
abbrev pub of_task : {A : Type 0} → ℕ → A → A → A
of_task zero quote report = quote
of_task (suc k) quote report = report

abbrev pub frames_in : ℕ → Rows → List Frame
frames_in k r = of_task k r.quote r.report

abbrev pub with_frames : ℕ → List Frame → Rows → Rows
with_frames k x r = rows_of r.classes r.kept r.cache r.ties r.subtypes r.objects (of_task k x r.quote) (of_task k r.report x) r.numbers r.trace

-- the level that the rows are at
abbrev pub level_of : Rows → Level
level_of r = level (length r.classes) (length r.kept) (length r.cache) (length r.ties) (length r.subtypes)

-- the rows cut to a level: of each table that loads add to the first rows, with the numbers of those of constraints
unfoldable pub cut_to : Level → Rows → Rows
cut_to l r =
    with_classes (take l.classes r.classes) (with_kept (take l.kept r.kept)
    (with_cache (take l.cache r.cache) (with_ties (take l.ties r.ties) (with_subtypes (take l.subtypes r.subtypes)
    (with_numbers (row_numbers (take l.ties r.numbers.ties) (take l.subtypes r.numbers.subtypes)) r)))))

unfoldable pub file_at : List ℕ → ClassRow → Option File
file_at bs k = need (leb (k.start + k.size) (length bs)) >>= λ _. read_file (take k.size (drop k.start bs))

-- Object has no file
unfoldable pub class_at : List ℕ → ClassRow → Class
class_at bs k = elim (file_at bs k) [ none ↦ object_class | some f ↦ class_of k.loader f ]

abbrev pub base_of : List ClassRow → List ℕ → List Entry → Base
base_of ks bs es = record { classes = map (class_at bs) ks; cache = es }

abbrev pub world_of : Rows → World
world_of r = record { base = base_of r.classes r.kept r.cache; ties = r.ties; subtypes = r.subtypes }

-- how many fields an object of class c has
abbrev pub size_of : Base → ℕ → ℕ
size_of b c = length (slots b c)

-- Cells. Class rows, cache entries, ties and subtype constraints have three cells each.

abbrev pub three_at : {A : Type 0} → (ℕ → ℕ → ℕ → A) → List ℕ → ℕ → A
three_at make t i = make (get_or t (i * row_cells) 0) (get_or t (i * row_cells + 1) 0) (get_or t (i * row_cells + 2) 0)

abbrev pub put_three : List ℕ → ℕ → ℕ → ℕ → ℕ → List ℕ
put_three t i a b c = set (set (set t (i * row_cells) a) (i * row_cells + 1) b) (i * row_cells + 2) c

abbrev pub class_row : ℕ → ℕ → ℕ → ClassRow
class_row l s n = record { loader = l; start = s; size = n }

abbrev pub entry : ℕ → ℕ → ℕ → Entry
entry l n c = record { request = at l n; class = c }

abbrev pub tie : ℕ → ℕ → ℕ → Tie
tie l m n = record { one = l; two = m; name = n }

abbrev pub subtype : ℕ → ℕ → ℕ → Subtype
subtype l a b = record { loader = l; low = a; high = b }

unfoldable pub class_row_at : List ℕ → ℕ → ClassRow
class_row_at t i = three_at class_row t i

unfoldable pub put_class_row : List ℕ → ℕ → ClassRow → List ℕ
put_class_row t i k = put_three t i k.loader k.start k.size

unfoldable pub entry_at : List ℕ → ℕ → Entry
entry_at t i = three_at entry t i

unfoldable pub put_entry : List ℕ → ℕ → Entry → List ℕ
put_entry t i e = put_three t i e.request.loader e.request.name e.class

unfoldable pub tie_at : List ℕ → ℕ → Tie
tie_at t i = three_at tie t i

unfoldable pub put_tie : List ℕ → ℕ → Tie → List ℕ
put_tie t i e = put_three t i e.one e.two e.name

unfoldable pub subtype_at : List ℕ → ℕ → Subtype
subtype_at t i = three_at subtype t i

unfoldable pub put_subtype : List ℕ → ℕ → Subtype → List ℕ
put_subtype t i e = put_three t i e.loader e.low e.high

-- A value has two cells, a kind and 32 bits: 0 empty, 1 an int, 2 null, 3 an object; the bits of empty and null are 0

unfoldable pub value_of : ℕ → ℕ → Value
value_of k b =
    pick (eqb k kind_int) (int_value b)
    (pick (eqb k kind_object) (object_value b)
    (pick (eqb b 0) (pick (eqb k kind_empty) empty_value (pick (eqb k kind_null) null_value (unlisted_value k b))) (unlisted_value k b)))

unfoldable pub kind_of : Value → ℕ
kind_of empty_value = kind_empty
kind_of (int_value n) = kind_int
kind_of null_value = kind_null
kind_of (object_value o) = kind_object
kind_of (unlisted_value k b) = k

unfoldable pub bits_of : Value → ℕ
bits_of empty_value = 0
bits_of (int_value n) = n
bits_of null_value = 0
bits_of (object_value o) = o
bits_of (unlisted_value k b) = b

unfoldable pub value_at : List ℕ → ℕ → Value
value_at t i = value_of (get_or t i 0) (get_or t (i + 1) 0)

abbrev pub put_cells : List ℕ → ℕ → ℕ → ℕ → List ℕ
put_cells t i k b = set (set t i k) (i + 1) b

unfoldable pub put_value : List ℕ → ℕ → Value → List ℕ
put_value t i v = put_cells t i (kind_of v) (bits_of v)

-- An object has 33 cells: its class, then 16 values, of which those of its class's fields are used

unfoldable pub field_at : List ℕ → ℕ → ℕ → Value
field_at t o i = value_at t (o * object_cells + (fields_cell + value_cells * i))

unfoldable pub put_field : ℕ → List ℕ → ℕ → Value → List ℕ
put_field o t i v = put_value t (o * object_cells + (fields_cell + value_cells * i)) v

-- a class with more than 16 fields is broken; no row has room for more
unfoldable pub used_fields : Base → ℕ → ℕ
used_fields b c = pick (leb (size_of b c) field_limit) (size_of b c) field_limit

unfoldable pub object_at : Base → List ℕ → ℕ → Object
object_at b t o = record { class = get_or t (o * object_cells) 0; values = rows (field_at t o) (used_fields b (get_or t (o * object_cells) 0)) 0 }

unfoldable pub put_object : List ℕ → ℕ → Object → List ℕ
put_object t o x = write_rows (put_field o) x.values 0 (set t (o * object_cells) x.class)

-- Whether a row is free, and whose its object is, stands in its owner cell, behind the counts: 0 free, else 1 and the task. A free row's own cells hold
-- no value: none is read or written.

unfoldable pub owned_by : ℕ → Object → ObjectRow
owned_by zero x = free
owned_by (suc k) x = owned k x

unfoldable pub owner_of : ObjectRow → ℕ
owner_of free = 0
owner_of (owned k x) = suc k

unfoldable pub owner_at : List ℕ → ℕ → ℕ
owner_at n o = get_or n (owners_cell + o) 0

unfoldable pub put_owner : List ℕ → ℕ → ObjectRow → List ℕ
put_owner n o x = set n (owners_cell + o) (owner_of x)

unfoldable pub object_row_at : Base → List ℕ → List ℕ → ℕ → ObjectRow
object_row_at b n t o = owned_by (owner_at n o) (object_at b t o)

unfoldable pub put_object_row : List ℕ → ℕ → ObjectRow → List ℕ
put_object_row t o free = t
put_object_row t o (owned k x) = put_object t o x

-- Of a tie and of a subtype constraint its number stands behind the owners, in cell i of the section of counts that begins at cell s; likewise a tie's
-- group, behind the trace

unfoldable pub number_at : ℕ → List ℕ → ℕ → ℕ
number_at s n i = get_or n (s + i) 0

unfoldable pub put_number : ℕ → List ℕ → ℕ → ℕ → List ℕ
put_number s n i x = set n (s + i) x

-- A level has five cells, in the order of the counts; row i of the trace, the oldest load's first

unfoldable pub level_at : List ℕ → ℕ → Level
level_at n i =
    let c = trace_cell + i * level_cells in
    level (get_or n c 0) (get_or n (c + 1) 0) (get_or n (c + 2) 0) (get_or n (c + 3) 0) (get_or n (c + 4) 0)

unfoldable pub put_level : List ℕ → ℕ → Level → List ℕ
put_level n i l =
    let c = trace_cell + i * level_cells in
    set (set (set (set (set n c l.classes) (c + 1) l.kept) (c + 2) l.cache) (c + 3) l.ties) (c + 4) l.subtypes

-- A frame has 52 cells: class, method, point, operand count, 8 locals, 16 operands from the lowest

unfoldable pub local_at : List ℕ → ℕ → ℕ → Value
local_at t b i = value_at t (b + (locals_cell + value_cells * i))

unfoldable pub put_local : ℕ → List ℕ → ℕ → Value → List ℕ
put_local b t i v = put_value t (b + (locals_cell + value_cells * i)) v

unfoldable pub operand_at : List ℕ → ℕ → ℕ → Value
operand_at t b i = value_at t (b + (operands_cell + value_cells * i))

unfoldable pub put_operand : ℕ → List ℕ → ℕ → Value → List ℕ
put_operand b t i v = put_value t (b + (operands_cell + value_cells * i)) v

abbrev pub frame : ℕ → ℕ → ℕ → List Value → List Value → Frame
frame c m p o l = record { class = c; method = m; point = p; operands = o; locals = l }

-- the frame whose row begins at cell b, at point p with d operands
unfoldable pub frame_of : List ℕ → ℕ → ℕ → ℕ → Frame
frame_of t b p d = frame (get_or t b 0) (get_or t (b + method_cell) 0) p (stack (operand_at t b) d) (rows (local_at t b) local_count 0)

unfoldable pub frame_at : List ℕ → ℕ → Frame
frame_at t b = frame_of t b (get_or t (b + point_cell) 0) (get_or t (b + depth_cell) 0)

abbrev pub put_head : List ℕ → ℕ → ℕ → ℕ → ℕ → ℕ → List ℕ
put_head t b c m p d = set (set (set (set t b c) (b + method_cell) m) (b + point_cell) p) (b + depth_cell) d

unfoldable pub put_frame : List ℕ → ℕ → Frame → List ℕ
put_frame t b f =
    write_stack (put_operand b) f.operands (write_rows (put_local b) f.locals 0 (put_head t b f.class f.method f.point (length f.operands)))

-- where row i of task k begins: each task has 32 rows, its first frame in the first
abbrev pub frame_base : ℕ → ℕ → ℕ
frame_base k i = (k * frame_limit + i) * frame_cells

unfoldable pub frame_in : List ℕ → ℕ → ℕ → Frame
frame_in t k i = frame_at t (frame_base k i)

unfoldable pub put_frame_in : ℕ → List ℕ → ℕ → Frame → List ℕ
put_frame_in k t i f = put_frame t (frame_base k i) f

-- The used rows: classes, kept bytes, cache entries, ties, subtype constraints, objects, and each task's frames, by their counts

abbrev pub class_rows_of : Tables → List ClassRow
class_rows_of t = rows (class_row_at t.classes) (get_or t.counts count_classes 0) 0

abbrev pub kept_of : Tables → List ℕ
kept_of t = rows (λ i. get_or t.kept i 0) (get_or t.counts count_kept 0) 0

abbrev pub cache_of : Tables → List Entry
cache_of t = rows (entry_at t.cache) (get_or t.counts count_cache 0) 0

abbrev pub ties_of : Tables → List Tie
ties_of t = rows (tie_at t.ties) (get_or t.counts count_ties 0) 0

abbrev pub subtypes_of : Tables → List Subtype
subtypes_of t = rows (subtype_at t.subtypes) (get_or t.counts count_subtypes 0) 0

-- the numbers of the used rows; those of other rows say nothing
abbrev pub numbers_of : Tables → RowNumbers
numbers_of t = row_numbers (rows (number_at tie_numbers_cell t.counts) (get_or t.counts count_ties 0) 0) (rows (number_at subtype_numbers_cell t.counts) (get_or t.counts count_subtypes 0) 0)

-- the loads that can be taken back, the latest first
abbrev pub trace_of : Tables → List Level
trace_of t = stack (level_at t.counts) (get_or t.counts loads_cell 0)

abbrev pub view_base : Tables → Base
view_base t = base_of (class_rows_of t) (kept_of t) (cache_of t)

unfoldable pub objects_of : Base → Tables → Objects
objects_of b t = rows (object_row_at b t.counts t.objects) (get_or t.counts count_objects 0) 0

-- task 0 is the quote, 1 the report; the top frame first
unfoldable pub frames_of : Tables → ℕ → List Frame
frames_of t k = stack (frame_in t.frames k) (get_or t.counts (count_frames + k) 0)

-- the rows, where classes have the fields that b gives them
unfoldable pub view_over : Base → Tables → Rows
view_over b t = rows_of (class_rows_of t) (kept_of t) (cache_of t) (ties_of t) (subtypes_of t) (objects_of b t) (frames_of t 0) (frames_of t 1) (numbers_of t) (trace_of t)

unfoldable pub view : Tables → Rows
view t = view_over (view_base t) t

-- Rows written back; every other cell stays

unfoldable pub counts_of : Rows → List ℕ
counts_of r =
    length r.classes ∷ length r.kept ∷ length r.cache ∷ length r.ties ∷ length r.subtypes ∷ length r.objects
    ∷ length r.quote ∷ length r.report ∷ []

unfoldable pub put_numbers : RowNumbers → List ℕ → List ℕ
put_numbers n c = write_rows (put_number tie_numbers_cell) n.ties 0 (write_rows (put_number subtype_numbers_cell) n.subtypes 0 c)

unfoldable pub put_trace : List Level → List ℕ → List ℕ
put_trace ls c = write_stack put_level ls (set c loads_cell (length ls))

-- groups are no part of rows, since ties and their numbers give them: whatever is put, its groups are made anew
unfoldable pub put_groups : List Tie → List ℕ → List ℕ → List ℕ
put_groups ts ns c = write_rows (put_number groups_cell) (groups_of ts ns) 0 c

unfoldable pub put : Rows → Tables → Tables
put r t = record {
  counts = put_groups r.ties r.numbers.ties (put_trace r.trace (put_numbers r.numbers (write_rows put_owner r.objects 0 (write_rows set (counts_of r) 0 t.counts))));
  classes = write_rows put_class_row r.classes 0 t.classes;
  kept = write_rows set r.kept 0 t.kept;
  cache = write_rows put_entry r.cache 0 t.cache;
  ties = write_rows put_tie r.ties 0 t.ties;
  subtypes = write_rows put_subtype r.subtypes 0 t.subtypes;
  objects = write_rows put_object_row r.objects 0 t.objects;
  frames = write_stack (put_frame_in 1) r.report (write_stack (put_frame_in 0) r.quote t.frames);
}
