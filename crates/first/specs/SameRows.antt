-- The same rows in both machines: the same objects, and every other part equal. Where no class's file is of a later version they are sound together, and a call
-- on them that brings none, and that the first document's machine doesn't refuse for a hidden field, gives the same answer and leaves the same rows again.
use Rattle.std.specs.Prelude.{◌≡◌, Bool, ℕ, ◌+◌, ◌<◌, ltb}
use Rattle.std.proofs.Math.Path.{refl, ap}
use Rattle.std.proofs.Common.{sym, ◌∙◌, arith, ltb-true, lt-ltb}
use Rattle.std.proofs.Math.Option.{Option}
use Rattle.std.proofs.Math.Bool.{true, false}
use mathlib.Core.List.{List, [], ◌∷◌, ◌++◌}
use Rattle.std.proofs.Math.ListN.{length}
use Rattle.std.proofs.Math.Dec.{leb}
use Rattle.definition.specs.Numbers.{word_file, word_unknown, word_hidden, loader_limit, task_limit, kept_limit, operand_limit, share_limit}
use Rattle.definition.specs.declared.Refusal.TheVariants.{Word}
use Rattle.definition.specs.Answers.{refused, ok, ◌>>=◌, need, take?}
use Rattle.definition.specs.Classes.{Base}
use Rattle.definition.specs.File.{File, class_of}
use Rattle.definition.specs.Loading.{recorded}
use Rattle.definition.specs.Lists.{every, all, is_some}
use Rattle.definition.specs.Machine.{Value, empty_value, int_value, null_value, object_value, unlisted_value, Object, owned, Objects, Frame, Progress, made_by}
use Rattle.definition.specs.Tables.{Rows, world_of, frames_in}
use Rattle.definition.specs.Broken.{entry_fits, tie_fits, subtype_fits, value_fits, local_fits, object_fits, frame_fits, numbered, sound}
use Rattle.definition.specs.Calls.{Given, closed, progressed, answer_of, define_rows, record_rows, start_rows, drop_rows, step_task, step_on, step_rows, RowCall, row_define, row_record, row_start, row_drop, on_row_call}
use Rattle.definition.specs.First.Machine.{FirstProgress}
use Rattle.definition.specs.First.Tables.{FirstRows, first_rows_of, first_base_of, first_world_of}
use Rattle.definition.specs.First.Broken.{first_value_fits, first_local_fits, first_object_fits, first_frame_fits, first_classes_fit, first_sound}
use Rattle.laws.specs.Results.{take-ok}
use Rattle.definition.specs.First.Files.{first_read_file}
use Rattle.definition.specs.First.Verifier.{first_define}
use Rattle.first.specs.SameFiles.{later_file, same_read, read-old, same-define}
use Rattle.first.specs.SameBases.{Early, same-classes, classes-old, same-classes-fit}
use Rattle.definition.specs.First.Calls.{FirstGiven, first_progressed, first_define_rows, first_record_rows, first_start_rows, first_drop_rows, first_step_task, first_step_on, first_step_rows, FirstRowCall, first_row_define, first_row_record, first_row_start, first_row_drop, first_on_row_call}
use Rattle.first.specs.SameObjects.{SameObjects, no_objects, same_object, same-existing}
use Rattle.first.specs.Likewise.{Likewise, both, after, after-in, passed}
use Rattle.first.specs.SameSteps.{SameProgress, same_step, same-started}

-- today's rows, but for the objects
abbrev pub plain : List Object → Rows → FirstRows
plain os q = first_rows_of q.classes q.kept q.cache q.ties q.subtypes os q.quote q.report

pub record SameRows (r : FirstRows) (q : Rows) : Type 0 where
  pub rest : r ≡ plain r.objects q
  pub objects : SameObjects r.objects q.objects

-- Sound rows

module _ (os : List Object) (qs : Objects) (h : SameObjects os qs) where
  same-value : (v : Value) → first_value_fits os v ≡ value_fits qs v
  unfolding first_value_fits value_fits
  same-value empty_value = refl
  same-value (int_value n) = refl
  same-value null_value = refl
  same-value (object_value o) = ap is_some (same-existing os qs h o)
  same-value (unlisted_value k b) = refl

  same-local : (v : Value) → first_local_fits os v ≡ local_fits qs v
  unfolding first_local_fits local_fits
  same-local empty_value = refl
  same-local (int_value n) = refl
  same-local null_value = refl
  same-local (object_value o) = ap is_some (same-existing os qs h o)
  same-local (unlisted_value k b) = refl

  -- an owner that is a task passes its test
  same-object : (n k : ℕ) (x : Object) → k < task_limit → first_object_fits n os x ≡ object_fits n qs (owned k x)
  unfolding first_object_fits object_fits
  same-object n k x l =
      (λ i. every (ltb x.class n ∷ all (λ v. same-value v i) x.values ∷ []))
      ∙ rw (lt-ltb k task_limit l) (unfold every in refl)

  same-objects : (n : ℕ) (ps : List Object) (rs : Objects) → SameObjects ps rs → all (first_object_fits n os) ps ≡ all (object_fits n qs) rs
  unfolding all
  same-objects n ps rs no_objects = refl
  same-objects n ps rs (same_object {k = k} {x = x} {os = ps'} {qs = rs'} l g) =
      λ i. elim (same-object n k x l i) as (λ _. Bool) [ true ↦ same-objects n ps' rs' g i | false ↦ false ]

  same-frame : (n : ℕ) (f : Frame) → first_frame_fits n os f ≡ frame_fits n qs f
  unfolding first_frame_fits frame_fits
  same-frame n f =
      λ i. every
      (ltb f.class n ∷ leb (length f.operands) operand_limit ∷ all (λ v. same-value v i) f.operands ∷ all (λ v. same-local v i) f.locals ∷ [])

-- no file of a later version is kept, and the call brings none
abbrev pub EarlyRows : Rows → Type 0
EarlyRows q = Early q.kept q.classes

same_base : (q : Rows) → EarlyRows q → first_base_of q.classes q.kept q.cache ≡ (world_of q).base
same_base q e = λ i. record { classes = same-classes q.kept q.classes e i; cache = q.cache }

abbrev pub BringsLater : FirstRowCall → Type 0
BringsLater (first_row_define l bs) = later_file bs ≡ true
BringsLater (first_row_record l n c) = ⊥
BringsLater (first_row_start k l n m v) = ⊥
BringsLater (first_row_drop k) = ⊥

abbrev pub BringsNone : FirstRowCall → Type 0
BringsNone (first_row_define l bs) = later_file bs ≡ false
BringsNone (first_row_record l n c) = Unit {0}
BringsNone (first_row_start k l n m v) = Unit {0}
BringsNone (first_row_drop k) = Unit {0}

-- the first document's machine refuses the call for a hidden field
abbrev pub FirstHidden : FirstRowCall → FirstRows → Type 0
FirstHidden c r = first_on_row_call c r ≡ refused (Word word_hidden)

-- two more tests that pass
every-last : (xs : List Bool) → every xs ≡ every (xs ++ (true ∷ true ∷ []))
unfolding every
every-last [] = refl
every-last (true ∷ xs) = every-last xs
every-last (false ∷ xs) = refl

-- what stands beside the rows passes today's tests: the numbers are in turn, and the report has no more than its share
abbrev pub BesideFits : Rows → Type 0
BesideFits q = (numbered q.numbers ≡ true) × (leb (made_by 1 q.objects) share_limit ≡ true)

pub same-sound : (os : List Object) (q : Rows) → SameObjects os q.objects → BesideFits q → EarlyRows q → first_sound (plain os q) ≡ sound q
unfolding first_sound sound
same-sound os q h n e = rw (n.0, n.1)
    ((λ i. every
    ((ap (λ (b : Base). first_classes_fit b q.kept q.classes) (same_base q e) ∙ same-classes-fit (world_of q).base q.kept q.classes e) i
    ∷ all (entry_fits (length q.classes)) q.cache
    ∷ all tie_fits q.ties
    ∷ all subtype_fits q.subtypes
    ∷ same-objects os q.objects h (length q.classes) os q.objects h i
    ∷ all (λ f. same-frame os q.objects h (length q.classes) f i) q.quote
    ∷ all (λ f. same-frame os q.objects h (length q.classes) f i) q.report
    ∷ []))
    ∙ every-last _)

-- Calls

pub record SameGiven {A : Type 0} (g : FirstGiven A) (h : Given A) : Type 0 where
  pub answer : g.answer ≡ h.answer
  pub rows : SameRows g.rows h.rows

-- a call of the first document, asked of today's machine
abbrev pub today_row : FirstRowCall → RowCall
today_row (first_row_define l bs) = row_define l bs
today_row (first_row_record l n c) = row_record l n c
today_row (first_row_start k l n m v) = row_start k l n m v
today_row (first_row_drop k) = row_drop k

module _ (os : List Object) (q : Rows) (h : SameObjects os q.objects) (e : EarlyRows q) where
  same-world : first_world_of (plain os q) ≡ world_of q
  same-world = λ i. record { base = same_base q e i; ties = q.ties; subtypes = q.subtypes }

  -- a task's progress
  same-progressed : (k : ℕ) (p : FirstProgress) (o : Progress) → SameProgress p o → SameRows (first_progressed k (plain os q) p) (closed (progressed k q o))
  same-progressed k p o g = record { rest = ap (first_progressed k (plain os q)) g.rest; objects = g.objects }

  -- a define that the first document's machine refuses for a hidden field is refused as a whole
  hidden-rows : (l : ℕ) (bs : List ℕ) (f : File) (u : Unit {0}) → need (ltb l loader_limit) (Word word_unknown) ≡ ok u → take? (first_read_file bs) (Word word_file) ≡ ok f
      → first_define (leb (length q.kept + length bs) kept_limit) (class_of l f) (world_of q) ≡ refused (Word word_hidden) → FirstHidden (first_row_define l bs) (plain os q)
  unfolding first_define_rows ◌>>=◌
  hidden-rows l bs f u s t e = rw (s, t, same-world, e)

  -- where no field is hidden
  pub same-row-call : (c : FirstRowCall) → BringsNone c → (FirstHidden c (plain os q) → ⊥) → Likewise SameGiven (first_on_row_call c (plain os q)) (on_row_call (today_row c) q)
  unfolding first_define_rows define_rows first_record_rows record_rows first_start_rows start_rows first_drop_rows drop_rows
  same-row-call (first_row_define l bs) b n =
      let z = same_read bs b in
      after-in SameGiven _ _ refl _ _ (λ u s. after-in SameGiven _ _ (ap (λ (o : Option File). take? o (Word word_file)) z) _ _ (λ f t.
      after SameGiven _ _ (ap (first_define (leb (length q.kept + length bs) kept_limit) (class_of l f)) same-world
      ∙ same-define _ (class_of l f) (world_of q) (read-old l bs b f (sym z ∙ take-ok _ _ t)) (λ e. n (hidden-rows l bs f u s t e))) _ _
      (λ w. record { answer = refl; rows = record { rest = refl; objects = h } })))
  same-row-call (first_row_record l n c) b _ = after SameGiven _ _ (ap (recorded l n c) same-world) _ _ (λ w. record { answer = refl; rows = record { rest = refl; objects = h } })
  same-row-call (first_row_start k l n m v) b _ =
      passed SameGiven _ _ _ _ (λ t. both SameProgress SameGiven _ _ _ _ (rw same-world (same-started os q.objects h k (ltb-true k task_limit t) (world_of q) l n m v (frames_in k q)))
      (λ p o g. record { answer = refl; rows = same-progressed k p o g }))
  same-row-call (first_row_drop k) b _ = after SameGiven _ _ refl _ _ (λ _. record { answer = refl; rows = record { rest = refl; objects = h } })

  same-task : (k : ℕ) → k < task_limit → (f : Frame) (fs : List Frame)
      → Likewise SameGiven (first_step_task k (world_of q) f fs (plain os q)) (step_task k (world_of q) f fs q)
  unfolding first_step_task step_task
  same-task k t f fs =
      both SameProgress SameGiven _ _ _ _ (same_step os q.objects h k t (world_of q) (classes-old q.kept q.classes e) f fs)
      (λ p o g. record { answer = ap (λ (z : FirstProgress). answer_of k z.result) g.rest; rows = same-progressed k p o g })

  pub same-step-rows : Likewise SameGiven (first_step_rows (plain os q)) (step_rows q)
  unfolding first_step_rows step_rows
  same-step-rows = rw same-world (go q.quote q.report)
    where
      go : (fs gs : List Frame) → Likewise SameGiven (first_step_on fs gs (world_of q) (plain os q)) (step_on fs gs (world_of q) q)
      go (f ∷ fs) gs = unfold first_step_on step_on in same-task 0 (omega arith) f fs
      go [] (f ∷ fs) = unfold first_step_on step_on in same-task 1 (omega arith) f fs
      go [] [] = unfold first_step_on step_on in record { answer = refl; rows = record { rest = refl; objects = h } }
