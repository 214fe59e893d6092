-- Word 1, 'broken': tables that are no store.
use Rattle.std.specs.Prelude.{Bool, true, false, not, List, [], ◌∷◌, ℕ, zero, suc, ◌+◌, length, get_or, eqb, leb, ltb}
use Rattle.definition.specs.Numbers.{loader_limit, task_limit, class_limit, kept_limit, cache_limit, tie_limit, subtype_limit, object_limit, share_limit, field_limit, frame_limit, operand_limit, trace_limit, count_classes, count_kept, count_cache, count_ties, count_subtypes, count_objects, count_frames, loads_cell, groups_cell}
use Rattle.definition.specs.Lists.{every, all, all_from, is_some, same_list, rows}
use Rattle.definition.specs.Classes.{Base, Entry, super_of}
use Rattle.definition.specs.Constraints.{Tie, Subtype}
use Rattle.definition.specs.Groups.{groups_of}
use Rattle.definition.specs.Machine.{Value, empty_value, int_value, null_value, object_value, unlisted_value, ObjectRow, free, owned, Objects, Frame, existing, made_by}
use Rattle.definition.specs.Tables.{Tables, shaped, ClassRow, RowNumbers, Level, Rows, cut_to, file_at, base_of, size_of, number_at, view}

-- each count within its limit
unfoldable pub within : List ℕ → Bool
within c = every
    (leb (get_or c count_classes 0) class_limit
    ∷ leb (get_or c count_kept 0) kept_limit
    ∷ leb (get_or c count_cache 0) cache_limit
    ∷ leb (get_or c count_ties 0) tie_limit
    ∷ leb (get_or c count_subtypes 0) subtype_limit
    ∷ leb (get_or c count_objects 0) object_limit
    ∷ leb (get_or c count_frames 0) frame_limit
    ∷ leb (get_or c (count_frames + 1) 0) frame_limit
    ∷ leb (get_or c loads_cell 0) trace_limit
    ∷ [])

-- class 0, if there, is boot's Object
unfoldable pub is_object : ClassRow → Bool
is_object k = every (eqb k.loader 0 ∷ eqb k.start 0 ∷ eqb k.size 0 ∷ [])

-- another class, of number c: its kept file reads by the file rules, its superclass is cached with a lower number, it has at most 16 fields
unfoldable pub class_fits : Base → List ℕ → ℕ → ClassRow → Bool
class_fits b bs c k = every (ltb k.loader loader_limit ∷ is_some (file_at bs k) ∷ is_some (super_of b c) ∷ leb (size_of b c) field_limit ∷ [])

unfoldable pub classes_fit : Base → List ℕ → List ClassRow → Bool
classes_fit b bs [] = true
classes_fit b bs (k ∷ ks) = every (is_object k ∷ all_from (class_fits b bs) 1 ks ∷ [])

-- no class, object, loader or task number is unused or too large; n classes there are
unfoldable pub entry_fits : ℕ → Entry → Bool
entry_fits n e = every (ltb e.request.loader loader_limit ∷ ltb e.class n ∷ [])

unfoldable pub tie_fits : Tie → Bool
tie_fits t = every (ltb t.one loader_limit ∷ ltb t.two loader_limit ∷ [])

unfoldable pub subtype_fits : Subtype → Bool
subtype_fits s = ltb s.loader loader_limit

-- a value's kind is listed, for a field or operand and for a local, which alone may be empty
unfoldable pub value_fits : Objects → Value → Bool
value_fits os empty_value = false
value_fits os (int_value n) = true
value_fits os null_value = true
value_fits os (object_value o) = is_some (existing os o)
value_fits os (unlisted_value k b) = false

unfoldable pub local_fits : Objects → Value → Bool
local_fits os empty_value = true
local_fits os (int_value n) = true
local_fits os null_value = true
local_fits os (object_value o) = is_some (existing os o)
local_fits os (unlisted_value k b) = false

-- an object's owner is a task; of a free row nothing is asked
unfoldable pub object_fits : ℕ → Objects → ObjectRow → Bool
object_fits n os free = true
object_fits n os (owned k o) = every (ltb k task_limit ∷ ltb o.class n ∷ all (value_fits os) o.values ∷ [])

unfoldable pub frame_fits : ℕ → Objects → Frame → Bool
frame_fits n os f = every (ltb f.class n ∷ leb (length f.operands) operand_limit ∷ all (value_fits os) f.operands ∷ all (local_fits os) f.locals ∷ [])

-- Rows keep the numbers that they got as they were posted, both tables together: each next number stands next in one of the two. So the numbers of k rows
-- are exactly 0 to k − 1, and rise along each table (`in-turn-words`, `words-in-turn`, crate layout).

unfoldable pub next : ℕ → List ℕ → Bool
next k [] = false
next k (x ∷ xs) = eqb x k

unfoldable pub others : List ℕ → List ℕ
others [] = []
others (x ∷ xs) = xs

-- the n numbers from k on
unfoldable pub in_turn : ℕ → ℕ → List ℕ → List ℕ → Bool
in_turn zero k ts ss = true
in_turn (suc n) k ts ss = elim (next k ts) [
  | true ↦ in_turn n (suc k) (others ts) ss
  | false ↦ elim (next k ss) [ true ↦ in_turn n (suc k) ts (others ss) | false ↦ false ]
]

unfoldable pub numbered : RowNumbers → Bool
numbered n = in_turn (length n.ties + length n.subtypes) 0 n.ties n.subtypes

unfoldable pub sound : Rows → Bool
sound r = every
    (classes_fit (base_of r.classes r.kept r.cache) r.kept r.classes
    ∷ all (entry_fits (length r.classes)) r.cache
    ∷ all tie_fits r.ties
    ∷ all subtype_fits r.subtypes
    ∷ all (object_fits (length r.classes) r.objects) r.objects
    ∷ all (frame_fits (length r.classes) r.objects) r.quote
    ∷ all (frame_fits (length r.classes) r.objects) r.report
    ∷ numbered r.numbers
    ∷ leb (made_by 1 r.objects) share_limit
    ∷ [])

-- The trace: loads are taken back in turn, the latest first, each from what the one before left. That needs no rows that aren't there, and leaves no broken store.

-- the rows are there
unfoldable pub level_fits : Level → Rows → Bool
level_fits l r = every
    (leb l.classes (length r.classes)
    ∷ leb l.kept (length r.kept)
    ∷ leb l.cache (length r.cache)
    ∷ leb l.ties (length r.ties)
    ∷ leb l.subtypes (length r.subtypes)
    ∷ [])

unfoldable pub trace_fits : List Level → Rows → Bool
trace_fits [] r = true
trace_fits (l ∷ ls) r = every (level_fits l r ∷ sound (cut_to l r) ∷ trace_fits ls (cut_to l r) ∷ [])

-- The groups beside the ties are exactly these. Of a store that taking back would leave nothing is asked of them: there they are made anew.

abbrev pub groups_in : Tables → List ℕ
groups_in t = rows (number_at groups_cell t.counts) (get_or t.counts count_ties 0) 0

unfoldable pub grouped : Tables → Bool
grouped t = same_list (groups_in t) (groups_of (view t).ties (view t).numbers.ties)

unfoldable pub whole : Tables → Bool
whole t = every (shaped t ∷ within t.counts ∷ sound (view t) ∷ trace_fits (view t).trace (view t) ∷ grouped t ∷ [])

unfoldable pub broken : Tables → Bool
broken t = not (whole t)
