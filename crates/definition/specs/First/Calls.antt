-- The first document's seven calls: on rows, then on tables.
use Rattle.std.specs.Prelude.{◌≡◌, true, false, ◌&&◌, List, [], ◌∷◌, ◌++◌, ℕ, ◌+◌, length, leb, ltb}
use Rattle.definition.specs.declared.Refusal.{Refusal}
use Rattle.definition.specs.declared.Refusal.TheVariants.{Word}
use Rattle.definition.specs.declared.Answer.{Answer}
use Rattle.definition.specs.declared.Answer.TheVariants.{Idle, Refused}
use Rattle.definition.specs.declared.Reply.{Reply}
use Rattle.definition.specs.declared.Reply.TheVariants.{Accepted, Defined, Denied}
use Rattle.definition.specs.Numbers.{word_broken, word_file, word_unknown, name_object, loader_limit, task_limit, kept_limit, run_limit}
use Rattle.definition.specs.Constraints.{World}
use Rattle.definition.specs.Answers.{Result, refused, ok, ◌>>=◌, need, take?}
use Rattle.definition.specs.Machine.{Frame}
use Rattle.definition.specs.Loading.{recorded}
use Rattle.definition.specs.File.{class_of}
use Rattle.definition.specs.Tables.{class_row, entry}
use Rattle.definition.specs.Calls.{answer_of, Done, done, run_from, of_step}
use Rattle.definition.specs.First.Files.{first_read_file}
use Rattle.definition.specs.First.Verifier.{first_define}
use Rattle.definition.specs.First.Machine.{FirstProgress, first_step, first_started}
use Rattle.definition.specs.First.Tables.{FirstTables, first_shaped, FirstRows, first_no_rows, first_with_classes, first_with_kept, first_with_cache, first_with_ties, first_with_subtypes, first_with_objects, first_frames_in, first_with_frames, first_world_of, first_view, first_put}
use Rattle.definition.specs.First.Broken.{first_broken}

abbrev pub FirstReply : Type 0
FirstReply = Reply

-- On rows: an answer with the rows that the call leaves

pub record FirstGiven (A : Type 0) : Type 0 where
  pub answer : A
  pub rows : FirstRows

abbrev pub first_given : {A : Type 0} → A → FirstRows → Result (FirstGiven A)
first_given a r = ok (record { answer = a; rows = r })

-- boot: class 0 is Object of loader 0, the cache holds only (0, 2), all other rows are emptied
abbrev pub first_boot_rows : FirstRows
first_boot_rows = first_with_classes (class_row 0 0 0 ∷ []) (first_with_cache (entry 0 name_object 0 ∷ []) first_no_rows)

-- the next class, with its file behind the kept ones; cache and constraints as w has them
abbrev pub first_add_file : ℕ → List ℕ → FirstRows → World → FirstRows
first_add_file l bs r w =
    first_with_classes (r.classes ++ (class_row l (length r.kept) (length bs) ∷ [])) (first_with_kept (r.kept ++ bs)
    (first_with_cache w.base.cache (first_with_ties w.ties (first_with_subtypes w.subtypes r))))

abbrev pub first_add_entry : FirstRows → World → FirstRows
first_add_entry r w = first_with_cache w.base.cache r

-- a task's progress: ties, objects, and the task's frames
abbrev pub first_progressed : ℕ → FirstRows → FirstProgress → FirstRows
first_progressed k r o = first_with_frames k o.frames (first_with_objects o.objects (first_with_ties o.world.ties r))

-- define. Refusals: 3 2 6 4 5 8 10 9
unfoldable pub first_define_rows : ℕ → List ℕ → FirstRows → Result (FirstGiven FirstReply)
first_define_rows l bs r =
    need (ltb l loader_limit) (Word word_unknown) >>= λ _. take? (first_read_file bs) (Word word_file) >>= λ f.
    first_define (leb (length r.kept + length bs) kept_limit) (class_of l f) (first_world_of r) >>= λ w.
    first_given (Defined (length r.classes)) (first_add_file l bs r w)

-- record. 3 13 4 10 9
unfoldable pub first_record_rows : ℕ → ℕ → ℕ → FirstRows → Result (FirstGiven FirstReply)
first_record_rows l n c r = recorded l n c (first_world_of r) >>= λ w. first_given Accepted (first_add_entry r w)

-- start of task k. 3 12 5 7 10
unfoldable pub first_start_rows : ℕ → ℕ → ℕ → ℕ → ℕ → FirstRows → Result (FirstGiven FirstReply)
first_start_rows k l n m v r =
    need (ltb k task_limit) (Word word_unknown) >>= λ _.
    first_started l n m v (first_world_of r) r.objects (first_frames_in k r) >>= λ o. first_given Accepted (first_progressed k r o)

-- drop of task k. 3
unfoldable pub first_drop_rows : ℕ → FirstRows → Result (FirstGiven FirstReply)
first_drop_rows k r = need (ltb k task_limit) (Word word_unknown) >>= λ _. first_given Accepted (first_with_frames k [] r)

-- step: one instruction of the quote if it has a frame, else of the report; w is what the rows' classes, cache and constraints are

unfoldable pub first_step_task : ℕ → World → Frame → List Frame → FirstRows → Result (FirstGiven Answer)
first_step_task k w f fs r = first_step w r.objects f fs >>= λ o. first_given (answer_of k o.result) (first_progressed k r o)

unfoldable pub first_step_on : List Frame → List Frame → World → FirstRows → Result (FirstGiven Answer)
first_step_on (f ∷ fs) gs w r = first_step_task 0 w f fs r
first_step_on [] (f ∷ fs) w r = first_step_task 1 w f fs r
first_step_on [] [] w r = first_given Idle r

unfoldable pub first_step_rows : FirstRows → Result (FirstGiven Answer)
first_step_rows r = first_step_on r.quote r.report (first_world_of r) r

-- On tables: an answer with the tables that the call leaves. Broken tables and refusals alter nothing.

abbrev pub FirstDone : Type 0 → Type 0
FirstDone A = Done A

unfoldable pub first_carried : {A : Type 0} → (Refusal → A) → FirstTables → Result (FirstGiven A) → FirstDone A
first_carried deny t (refused w) = done (deny w) t
first_carried deny t (ok g) = done g.answer (first_put g.rows t)

unfoldable pub first_wrap : {A : Type 0} → (Refusal → A) → (FirstRows → Result (FirstGiven A)) → FirstTables → FirstDone A
first_wrap {A} deny f t = elim (first_broken t) as (λ _. FirstDone A) [ true ↦ done (deny (Word word_broken)) t | false ↦ first_carried deny t (f (first_view t)) ]

-- boot checks the lengths alone
unfoldable pub first_boot : FirstTables → FirstDone FirstReply
first_boot t = elim (first_shaped t) as (λ _. FirstDone FirstReply) [ true ↦ done Accepted (first_put first_boot_rows t) | false ↦ done (Denied (Word word_broken)) t ]

unfoldable pub first_step_tables : FirstTables → FirstDone Answer
first_step_tables t = first_wrap Refused first_step_rows t

-- run: up to n steps, ended by the first answer other than ran; n is 1 to 65,535. Refusals: 1 3
unfoldable pub first_run : ℕ → FirstTables → FirstDone FirstReply
first_run n t = elim (first_broken t) as (λ _. FirstDone FirstReply) [
  | true ↦ done (Denied (Word word_broken)) t
  | false ↦ elim (leb 1 n && leb n run_limit) as (λ _. FirstDone FirstReply) [ true ↦ run_from first_step_tables n 0 Idle t | false ↦ done (Denied (Word word_unknown)) t ]
]

-- A call but boot, step and run refuses or puts rows: what it does is said on rows alone
pub data FirstRowCall : Type 0 where
  first_row_define : ℕ → List ℕ → FirstRowCall
  first_row_record : ℕ → ℕ → ℕ → FirstRowCall
  first_row_start : ℕ → ℕ → ℕ → ℕ → ℕ → FirstRowCall
  first_row_drop : ℕ → FirstRowCall

abbrev pub first_on_row_call : FirstRowCall → FirstRows → Result (FirstGiven FirstReply)
first_on_row_call (first_row_define l bs) = first_define_rows l bs
first_on_row_call (first_row_record l n c) = first_record_rows l n c
first_on_row_call (first_row_start k l n m v) = first_start_rows k l n m v
first_on_row_call (first_row_drop k) = first_drop_rows k

pub data FirstCall : Type 0 where
  first_call_boot : FirstCall
  first_call_rows : FirstRowCall → FirstCall
  first_call_step : FirstCall
  first_call_run : ℕ → FirstCall

unfoldable pub first_perform : FirstCall → FirstTables → FirstDone FirstReply
first_perform first_call_boot t = first_boot t
first_perform (first_call_rows c) t = first_wrap Denied (first_on_row_call c) t
first_perform first_call_step t = of_step (first_step_tables t)
first_perform (first_call_run n) t = first_run n t

-- Lists of calls: each call's answer, and the tables after the last
unfoldable pub first_perform_all : List FirstCall → FirstTables → FirstDone (List FirstReply)
first_perform_all [] t = done [] t
first_perform_all (c ∷ cs) t = let d = first_perform c t in let e = first_perform_all cs d.tables in done (d.answer ∷ e.answer) e.tables

-- A store that comes from a boot: one that an accepted boot leaves, or a call on such a store
pub data FirstComesFromBoot : FirstTables → Type 0 where
  first_after_boot : (t : FirstTables) → (first_boot t).answer ≡ Accepted → FirstComesFromBoot (first_boot t).tables
  first_after_call : (c : FirstCall) (t : FirstTables) → FirstComesFromBoot t → FirstComesFromBoot (first_perform c t).tables
