-- Word 1 as tests in an order in which they can be made: lengths, counts, the report's share and the numbers of rows, then the classes' files, and after these, with
-- classes read at once off files that are known to read, superclasses and sizes, rows, values and the trace.
use Rattle.std.specs.Prelude.{Bool, true, false, List, [], ◌∷◌, ℕ, ◌+◌, ◌*◌, ◌-◌, ◌<◌, ◌≤◌, length, get_or, replicate, eqb, leb, ltb, ◌≡◌, Option, Some, None}
use Rattle.definition.specs.Numbers.{class_limit, share_limit, counts_length, objects_length, frames_length}
use Rattle.definition.specs.Instructions.{pick}
use Rattle.definition.specs.Lists.{every, all, is_some, rows, stack}
use Rattle.definition.specs.Classes.{Base, super_of}
use Rattle.definition.specs.Machine.{Value, empty_value, int_value, null_value, object_value, unlisted_value, Object, ObjectRow, free, owned, Frame}
use Rattle.definition.specs.File.{read_file}
use Rattle.definition.specs.Tables.{Tables, shaped, ClassRow, class_row_at, entry_at, subtype_at, field_at, owned_by, owner_at, object_row_at, frame_in, size_of, view_base}
use Rattle.definition.specs.Broken.{within, is_object, entry_fits, subtype_fits, broken}
use Rattle.rows.specs.Numbers.{numbers_fit}
use Rattle.groups.specs.Numbered.{groups_fit}
use Rattle.frames.specs.Made.{made_in}
use Rattle.classfile.specs.Reading.{part_of}
use Rattle.resolution.specs.Quick.{quick_of}
use Rattle.store.specs.Tracing.{super_end, trace_quick}

-- Files: a class but the first has a loader, and a file that lies within the first n bytes and reads

unfoldable pub file_fits : ℕ → List ℕ → ClassRow → Bool
file_fits n kept k = every (ltb k.loader 16 ∷ leb (k.start + k.size) n ∷ is_some (read_file (part_of kept k.start k.size)) ∷ [])

unfoldable pub sources_fit : ℕ → List ℕ → List ClassRow → Bool
sources_fit n kept [] = true
sources_fit n kept (k ∷ ks) = every (is_object k ∷ all (file_fits n kept) ks ∷ [])

-- Superclasses and sizes: of classes 1 to n - 1, in their order

unfoldable pub linked : Base → ℕ → Bool
linked b c = every (is_some (super_of b c) ∷ leb (size_of b c) 16 ∷ [])

abbrev pub number : ℕ → ℕ
number c = c

unfoldable pub links_fit : Base → ℕ → Bool
links_fit b n = all (linked b) (rows number (n - 1) 1)

-- how many fields a class has, if it is linked
unfoldable pub linked_size : Base → ℕ → Option ℕ
linked_size b c = elim (linked b c) [ true ↦ Some (size_of b c) | false ↦ None ]

-- a table of zeros, and one with the sizes of classes 0 to n - 1, each at most 16, and zeros
abbrev pub Blank : List ℕ → Type 0
Blank sizes = sizes ≡ replicate class_limit 0

abbrev pub Sized : Base → ℕ → List ℕ → Type 0
Sized b n sizes = (c : ℕ) → (c < n → (get_or sizes c 0 ≡ size_of b c) × (size_of b c ≤ 16)) × (n ≤ c → get_or sizes c 0 ≡ 0)

-- a table that has, of each class, the row past the entry of its superclass; and one that has those of classes 0 to n - 1, and zeros
abbrev pub Ended : Base → List ℕ → Type 0
Ended b t = (c : ℕ) → get_or t c 0 ≡ super_end b c

abbrev pub EndedTo : Base → ℕ → List ℕ → Type 0
EndedTo b n t = (c : ℕ) → (c < n → get_or t c 0 ≡ super_end b c) × (n ≤ c → get_or t c 0 ≡ 0)

-- a row of objects, where the size of the object's class stands in such a table
abbrev pub sized_object : List ℕ → List ℕ → ℕ → Object
sized_object sizes t o = record { class = get_or t (o * 33) 0; values = rows (field_at t o) (get_or sizes (get_or t (o * 33) 0) 0) 0 }

unfoldable pub object_sized : List ℕ → List ℕ → List ℕ → ℕ → ObjectRow
object_sized sizes counts t o = owned_by (owner_at counts o) (sized_object sizes t o)

-- a table of sizes that are at most 16
abbrev pub SizesFew : List ℕ → Type 0
SizesFew sizes = (length sizes ≡ class_limit) × ((c : ℕ) → get_or sizes c 0 ≤ 16)

-- tables of counts, objects and frames have their lengths, and objects and frames are within their limits
abbrev pub Whole : List ℕ → List ℕ → List ℕ → Type 0
Whole counts objects frames = (length counts ≡ counts_length) × (length objects ≡ objects_length) × (length frames ≡ frames_length) × (get_or counts 5 0 ≤ 256) × (get_or counts 6 0 ≤ 32) × (get_or counts 7 0 ≤ 32)

-- Values, where X says which objects exist; objects and frames, where there are n classes

-- object o exists if its row is one of the first m, and owned
unfoldable pub exists : List ℕ → ℕ → ℕ → Bool
exists counts m o = every (ltb o m ∷ ltb 0 (owner_at counts o) ∷ [])

unfoldable pub value_in : (ℕ → Bool) → Value → Bool
value_in X empty_value = false
value_in X (int_value n) = true
value_in X null_value = true
value_in X (object_value o) = X o
value_in X (unlisted_value k b) = false

unfoldable pub local_in : (ℕ → Bool) → Value → Bool
local_in X empty_value = true
local_in X (int_value n) = true
local_in X null_value = true
local_in X (object_value o) = X o
local_in X (unlisted_value k b) = false

-- what the bits of a value of kind k that fits are below, if it isn't an int, where m rows are used
unfoldable pub limit_of : ℕ → ℕ → ℕ
limit_of k m = pick (eqb k 3) m (pick (eqb k 2) 1 0)

unfoldable pub object_in : ℕ → (ℕ → Bool) → ObjectRow → Bool
object_in n X free = true
object_in n X (owned k o) = every (ltb k 2 ∷ ltb o.class n ∷ all (value_in X) o.values ∷ [])

unfoldable pub frame_fit : ℕ → (ℕ → Bool) → Frame → Bool
frame_fit n X f = every (ltb f.class n ∷ leb (length f.operands) 16 ∷ all (value_in X) f.operands ∷ all (local_in X) f.locals ∷ [])

-- The rows of a store

unfoldable pub rows_fit : List ℕ → List ℕ → List ℕ → List ℕ → Bool
rows_fit counts cache ties subtypes = every
    (all (entry_fits (get_or counts 0 0)) (rows (entry_at cache) (get_or counts 2 0) 0)
    ∷ groups_fit counts ties (get_or counts 3 0)
    ∷ all subtype_fits (rows (subtype_at subtypes) (get_or counts 4 0) 0)
    ∷ [])

unfoldable pub objects_fit : Base → List ℕ → List ℕ → Bool
objects_fit b counts objects = all (object_in (get_or counts 0 0) (exists counts (get_or counts 5 0))) (rows (object_row_at b counts objects) (get_or counts 5 0) 0)

unfoldable pub frames_fit : List ℕ → List ℕ → ℕ → Bool
frames_fit counts frames k = all (frame_fit (get_or counts 0 0) (exists counts (get_or counts 5 0))) (stack (frame_in frames k) (get_or counts (6 + k) 0))

-- superclasses and sizes, all values of objects and frames, and the trace
unfoldable pub values_fit : Base → List ℕ → List ℕ → List ℕ → List ℕ → List ℕ → Bool
values_fit b counts classes cache objects frames = every
    (links_fit b (get_or counts 0 0)
    ∷ objects_fit b counts objects
    ∷ frames_fit counts frames 0
    ∷ frames_fit counts frames 1
    ∷ trace_quick (super_end b) counts classes cache objects frames
    ∷ [])

-- All together

-- the report made no more objects than its share
unfoldable pub share_fits : List ℕ → Bool
share_fits counts = leb (made_in counts 1) share_limit

-- lengths, counts, share, numbers of rows, files and rows: after these, classes are read at once
unfoldable pub readable : Tables → Bool
readable t = every
    (shaped t
    ∷ within t.counts
    ∷ share_fits t.counts
    ∷ numbers_fit t.counts
    ∷ sources_fit (get_or t.counts 1 0) t.kept (rows (class_row_at t.classes) (get_or t.counts 0 0) 0)
    ∷ rows_fit t.counts t.cache t.ties t.subtypes
    ∷ [])

unfoldable pub checks : Tables → Bool
checks t = every (readable t ∷ values_fit (quick_of t) t.counts t.classes t.cache t.objects t.frames ∷ [])

-- how many fields each class of the tables has, 0 where there is none; all 0 if the tables are broken
unfoldable pub sizes_of : Tables → List ℕ
sizes_of t = rows (λ c. pick (broken t) 0 (size_of (view_base t) c)) class_limit 0

-- the sizes of tables that are not broken: no class has more than 16 fields
pub record Measured (t : Tables) (sizes : List ℕ) : Type 0 where
  pub unbroken : broken t ≡ false
  pub fields : sizes ≡ sizes_of t
  pub sized : Sized (view_base t) (get_or t.counts 0 0) sizes
