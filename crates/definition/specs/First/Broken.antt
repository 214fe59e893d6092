-- Word 1, 'broken', of the first document: the tests that speak of files or objects, and what stands on them.
use Rattle.std.specs.Prelude.{Bool, true, false, not, List, [], ◌∷◌, ℕ, ◌+◌, length, get_or, leb, ltb}
use Rattle.definition.specs.Numbers.{loader_limit, field_limit, operand_limit, class_limit, kept_limit, cache_limit, tie_limit, subtype_limit, object_limit, frame_limit, count_classes, count_kept, count_cache, count_ties, count_subtypes, count_objects, count_frames}
use Rattle.definition.specs.Lists.{every, all, all_from, is_some}
use Rattle.definition.specs.Classes.{Base, super_of}
use Rattle.definition.specs.Machine.{Value, empty_value, int_value, null_value, object_value, unlisted_value, Object, Frame}
use Rattle.definition.specs.Tables.{ClassRow, size_of}
use Rattle.definition.specs.Broken.{is_object, entry_fits, tie_fits, subtype_fits}
use Rattle.definition.specs.First.Machine.{first_existing}
use Rattle.definition.specs.First.Tables.{FirstTables, first_shaped, first_file_at, first_base_of, FirstRows, first_view}

-- another class, of number c: its kept file reads by the file rules, its superclass is cached with a lower number, it has at most 16 fields
unfoldable pub first_class_fits : Base → List ℕ → ℕ → ClassRow → Bool
first_class_fits b bs c k = every (ltb k.loader loader_limit ∷ is_some (first_file_at bs k) ∷ is_some (super_of b c) ∷ leb (size_of b c) field_limit ∷ [])

unfoldable pub first_classes_fit : Base → List ℕ → List ClassRow → Bool
first_classes_fit b bs [] = true
first_classes_fit b bs (k ∷ ks) = every (is_object k ∷ all_from (first_class_fits b bs) 1 ks ∷ [])

-- a value's kind is listed, for a field or operand and for a local, which alone may be empty
unfoldable pub first_value_fits : List Object → Value → Bool
first_value_fits os empty_value = false
first_value_fits os (int_value n) = true
first_value_fits os null_value = true
first_value_fits os (object_value o) = is_some (first_existing os o)
first_value_fits os (unlisted_value k b) = false

unfoldable pub first_local_fits : List Object → Value → Bool
first_local_fits os empty_value = true
first_local_fits os (int_value n) = true
first_local_fits os null_value = true
first_local_fits os (object_value o) = is_some (first_existing os o)
first_local_fits os (unlisted_value k b) = false

unfoldable pub first_object_fits : ℕ → List Object → Object → Bool
first_object_fits n os o = every (ltb o.class n ∷ all (first_value_fits os) o.values ∷ [])

unfoldable pub first_frame_fits : ℕ → List Object → Frame → Bool
first_frame_fits n os f = every
    (ltb f.class n ∷ leb (length f.operands) operand_limit ∷ all (first_value_fits os) f.operands ∷ all (first_local_fits os) f.locals ∷ [])

unfoldable pub first_sound : FirstRows → Bool
first_sound r = every
    (first_classes_fit (first_base_of r.classes r.kept r.cache) r.kept r.classes
    ∷ all (entry_fits (length r.classes)) r.cache
    ∷ all tie_fits r.ties
    ∷ all subtype_fits r.subtypes
    ∷ all (first_object_fits (length r.classes) r.objects) r.objects
    ∷ all (first_frame_fits (length r.classes) r.objects) r.quote
    ∷ all (first_frame_fits (length r.classes) r.objects) r.report
    ∷ [])

-- each of the eight counts within its limit
unfoldable pub first_within : List ℕ → Bool
first_within c = every
    (leb (get_or c count_classes 0) class_limit
    ∷ leb (get_or c count_kept 0) kept_limit
    ∷ leb (get_or c count_cache 0) cache_limit
    ∷ leb (get_or c count_ties 0) tie_limit
    ∷ leb (get_or c count_subtypes 0) subtype_limit
    ∷ leb (get_or c count_objects 0) object_limit
    ∷ leb (get_or c count_frames 0) frame_limit
    ∷ leb (get_or c (count_frames + 1) 0) frame_limit
    ∷ [])

unfoldable pub first_whole : FirstTables → Bool
first_whole t = every (first_shaped t ∷ first_within t.counts ∷ first_sound (first_view t) ∷ [])

unfoldable pub first_broken : FirstTables → Bool
first_broken t = not (first_whole t)
