-- The first document's store: its classes, read of version 1 alone, its rows, with objects that are never freed, and its tables, with the eight counts alone and no owners or numbers behind them.
use Rattle.std.specs.Prelude.{Bool, List, [], ◌∷◌, map, ℕ, ◌+◌, length, get_or, set, take, drop, eqb, leb}
use Rattle.std.proofs.Math.Option.{Option, none, some}
use Rattle.definition.specs.Numbers.{task_limit, count_objects, count_frames, classes_length, kept_length, cache_length, ties_length, subtypes_length, objects_length, frames_length}
use Rattle.definition.specs.Lists.{every, rows, write_rows, write_stack}
use Rattle.definition.specs.Classes.{Base, Class, Entry}
use Rattle.definition.specs.Constraints.{Tie, Subtype, World}
use Rattle.definition.specs.Machine.{Object, Frame}
use Rattle.definition.specs.Tables.{Tables, ClassRow, of_task, put_class_row, put_entry, put_tie, put_subtype, object_at, put_object, put_frame_in, class_rows_of, kept_of, cache_of, ties_of, subtypes_of, frames_of}
use Rattle.definition.specs.File.{File, class_of, object_class}
use Rattle.definition.specs.Maybe.{◌>>=◌, need}
use Rattle.definition.specs.First.Files.{first_read_file}

abbrev pub FirstTables : Type 0
FirstTables = Tables

abbrev pub first_counts_length : ℕ
first_counts_length = count_frames + task_limit

-- the published lengths
unfoldable pub first_shaped : FirstTables → Bool
first_shaped t = every
    (eqb (length t.counts) first_counts_length
    ∷ eqb (length t.classes) classes_length
    ∷ eqb (length t.kept) kept_length
    ∷ eqb (length t.cache) cache_length
    ∷ eqb (length t.ties) ties_length
    ∷ eqb (length t.subtypes) subtypes_length
    ∷ eqb (length t.objects) objects_length
    ∷ eqb (length t.frames) frames_length
    ∷ [])

-- Classes, by their kept files; Object has none

unfoldable pub first_file_at : List ℕ → ClassRow → Option File
first_file_at bs k = need (leb (k.start + k.size) (length bs)) >>= λ _. first_read_file (take k.size (drop k.start bs))

unfoldable pub first_class_at : List ℕ → ClassRow → Class
first_class_at bs k = elim (first_file_at bs k) [ none ↦ object_class | some f ↦ class_of k.loader f ]

abbrev pub first_base_of : List ClassRow → List ℕ → List Entry → Base
first_base_of ks bs es = record { classes = map (first_class_at bs) ks; cache = es }

-- The store as rows

pub record FirstRows : Type 0 where
  pub classes : List ClassRow
  pub kept : List ℕ
  pub cache : List Entry
  pub ties : List Tie
  pub subtypes : List Subtype
  pub objects : List Object
  pub quote : List Frame
  pub report : List Frame

abbrev pub first_rows_of : List ClassRow → List ℕ → List Entry → List Tie → List Subtype → List Object → List Frame → List Frame → FirstRows
first_rows_of c k e t s o q p = record { classes = c; kept = k; cache = e; ties = t; subtypes = s; objects = o; quote = q; report = p }

abbrev pub first_no_rows : FirstRows
first_no_rows = first_rows_of [] [] [] [] [] [] [] []

-- One part of the rows replaced, the rest as it was: a call names what it changes

abbrev pub first_with_classes : List ClassRow → FirstRows → FirstRows
first_with_classes x r = first_rows_of x r.kept r.cache r.ties r.subtypes r.objects r.quote r.report

abbrev pub first_with_kept : List ℕ → FirstRows → FirstRows
first_with_kept x r = first_rows_of r.classes x r.cache r.ties r.subtypes r.objects r.quote r.report

abbrev pub first_with_cache : List Entry → FirstRows → FirstRows
first_with_cache x r = first_rows_of r.classes r.kept x r.ties r.subtypes r.objects r.quote r.report

abbrev pub first_with_ties : List Tie → FirstRows → FirstRows
first_with_ties x r = first_rows_of r.classes r.kept r.cache x r.subtypes r.objects r.quote r.report

abbrev pub first_with_subtypes : List Subtype → FirstRows → FirstRows
first_with_subtypes x r = first_rows_of r.classes r.kept r.cache r.ties x r.objects r.quote r.report

abbrev pub first_with_objects : List Object → FirstRows → FirstRows
first_with_objects x r = first_rows_of r.classes r.kept r.cache r.ties r.subtypes x r.quote r.report

abbrev pub first_frames_in : ℕ → FirstRows → List Frame
first_frames_in k r = of_task k r.quote r.report

abbrev pub first_with_frames : ℕ → List Frame → FirstRows → FirstRows
first_with_frames k x r = first_rows_of r.classes r.kept r.cache r.ties r.subtypes r.objects (of_task k x r.quote) (of_task k r.report x)

abbrev pub first_world_of : FirstRows → World
first_world_of r = record { base = first_base_of r.classes r.kept r.cache; ties = r.ties; subtypes = r.subtypes }

-- The used rows, by their counts

unfoldable pub first_objects_of : Base → FirstTables → List Object
first_objects_of b t = rows (object_at b t.objects) (get_or t.counts count_objects 0) 0

-- the rows, where classes have the fields that b gives them
unfoldable pub first_view_over : Base → FirstTables → FirstRows
first_view_over b t = first_rows_of (class_rows_of t) (kept_of t) (cache_of t) (ties_of t) (subtypes_of t) (first_objects_of b t) (frames_of t 0) (frames_of t 1)

abbrev pub first_view_base : FirstTables → Base
first_view_base t = first_base_of (class_rows_of t) (kept_of t) (cache_of t)

unfoldable pub first_view : FirstTables → FirstRows
first_view t = first_view_over (first_view_base t) t

-- Rows written back; every other cell stays

unfoldable pub first_counts_of : FirstRows → List ℕ
first_counts_of r =
    length r.classes ∷ length r.kept ∷ length r.cache ∷ length r.ties ∷ length r.subtypes ∷ length r.objects
    ∷ length r.quote ∷ length r.report ∷ []

unfoldable pub first_put : FirstRows → FirstTables → FirstTables
first_put r t = record {
  counts = write_rows set (first_counts_of r) 0 t.counts;
  classes = write_rows put_class_row r.classes 0 t.classes;
  kept = write_rows set r.kept 0 t.kept;
  cache = write_rows put_entry r.cache 0 t.cache;
  ties = write_rows put_tie r.ties 0 t.ties;
  subtypes = write_rows put_subtype r.subtypes 0 t.subtypes;
  objects = write_rows put_object r.objects 0 t.objects;
  frames = write_stack (put_frame_in 1) r.report (write_stack (put_frame_in 0) r.quote t.frames);
}
