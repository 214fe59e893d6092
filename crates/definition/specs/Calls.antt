-- The ten calls: on rows, then on tables.
use Rattle.std.specs.Prelude.{true, false, not, ◌&&◌, List, [], ◌∷◌, ◌++◌, ℕ, zero, suc, ◌+◌, ◌-◌, length, take, eqb, leb, ltb}
use Rattle.std.proofs.Math.Option.{Option, none, some}
use Rattle.definition.specs.Numbers.{word_broken, word_file, word_unknown, word_taken, word_wanted, word_unverified, word_absent, word_clash, word_full, word_null, word_busy, word_misnamed, word_stuck, word_unmapped, word_short, word_divisor, word_share, word_late, name_object, loader_limit, task_limit, kept_limit, run_limit, trace_limit, list_limit}
use Rattle.definition.specs.Lists.{rows}
use Rattle.definition.specs.Constraints.{Tie, Subtype, World}
use Rattle.definition.specs.Answers.{Refusal, Word, Answer, Idle, Ran, Finished, Refused, Reply, Accepted, Defined, Stepped, RanFor, Swept, Denied, Result, refused, ok, number, ◌>>=◌, need, take?}
use Rattle.definition.specs.Machine.{Frame, Progress, step}
use Rattle.definition.specs.Loading.{define, recorded, started}
use Rattle.definition.specs.Sweeping.{reached, swept_from, freed_from}
use Rattle.definition.specs.File.{read_file, class_of}
use Rattle.definition.specs.Tables.{Tables, shaped, RowNumbers, row_numbers, Level, Rows, no_rows, with_classes, with_kept, with_cache, with_ties, with_subtypes, with_objects, with_frames, with_numbers, with_trace, frames_in, level_of, cut_to, class_row, entry, world_of, view, put}
use Rattle.definition.specs.Broken.{broken}

-- On rows: an answer with the rows that the call leaves

pub record Given (A : Type 0) : Type 0 where
  pub answer : A
  pub rows : Rows

abbrev pub given : {A : Type 0} → A → Rows → Result (Given A)
given a r = ok (record { answer = a; rows = r })

-- boot: class 0 is Object of loader 0, the cache holds only (0, 2), all other rows are emptied
abbrev pub boot_rows : Rows
boot_rows = with_classes (class_row 0 0 0 ∷ []) (with_cache (entry 0 name_object 0 ∷ []) no_rows)

-- Rows that are posted are numbered on, behind all that were there; a define posts its notes before its ties

-- n numbers from k on
abbrev pub numbers_from : ℕ → ℕ → List ℕ
numbers_from k n = rows (λ i. i) n k

-- where the ties are now ts and the subtype constraints ss
unfoldable pub numbered_on : List Tie → List Subtype → Rows → RowNumbers
numbered_on ts ss r =
    let k = length r.ties + length r.subtypes in
    let n = length ss - length r.subtypes in
    row_numbers (r.numbers.ties ++ numbers_from (k + n) (length ts - length r.ties)) (r.numbers.subtypes ++ numbers_from k n)

-- The trace: a load that changed the store is remembered by the level before it, of more than 32 the latest; `remembered r s` where the load made s of r. A
-- call that may move objects under them closes what came before it.

abbrev pub remembered : Rows → Rows → Rows
remembered r s = with_trace (take trace_limit (level_of r ∷ r.trace)) s

abbrev pub closed : Rows → Rows
closed r = with_trace [] r

-- the next class, with its file behind the kept ones; cache and constraints as w has them
abbrev pub add_file : ℕ → List ℕ → Rows → World → Rows
add_file l bs r w =
    remembered r (with_classes (r.classes ++ (class_row l (length r.kept) (length bs) ∷ [])) (with_kept (r.kept ++ bs)
    (with_cache w.base.cache (with_ties w.ties (with_subtypes w.subtypes (with_numbers (numbered_on w.ties w.subtypes r) r))))))

-- the cache as w has it; the load is remembered if that is longer: a record of an entry that is there changes nothing
unfoldable pub entry_trace : Rows → World → List Level
entry_trace r w = elim (ltb (length r.cache) (length w.base.cache)) [ true ↦ take trace_limit (level_of r ∷ r.trace) | false ↦ r.trace ]

abbrev pub add_entry : Rows → World → Rows
add_entry r w = with_trace (entry_trace r w) (with_cache w.base.cache r)

-- a task's progress: ties with their numbers, objects, and the task's frames
abbrev pub progressed : ℕ → Rows → Progress → Rows
progressed k r o = with_frames k o.frames (with_objects o.objects (with_ties o.world.ties (with_numbers (numbered_on o.world.ties r.subtypes r) r)))

-- define. Refusals: 3 2 15 6 4 5 10 9
unfoldable pub define_rows : ℕ → List ℕ → Rows → Result (Given Reply)
define_rows l bs r =
    need (ltb l loader_limit) (Word word_unknown) >>= λ _. take? (read_file bs) (Word word_file) >>= λ f.
    define (leb (length r.kept + length bs) kept_limit) (class_of l f) (world_of r) >>= λ w.
    given (Defined (length r.classes)) (add_file l bs r w)

-- record. 3 13 4 10 9
unfoldable pub record_rows : ℕ → ℕ → ℕ → Rows → Result (Given Reply)
record_rows l n c r = recorded l n c (world_of r) >>= λ w. given Accepted (add_entry r w)

-- A load: a define or a record
pub data Load : Type 0 where
  load_define : ℕ → List ℕ → Load
  load_record : ℕ → ℕ → ℕ → Load

abbrev pub load_rows : Load → Rows → Result (Given Reply)
load_rows (load_define l bs) = define_rows l bs
load_rows (load_record l n c) = record_rows l n c

-- A load tried with a list of n numbers: it answers what the load would, and changes nothing. 16 comes straight after 3, a load's first test.
-- 3 16 2 15 6 4 5 10 9, or 3 16 13 4 10 9

unfoldable pub tried_with : ℕ → Rows → Result (Given Reply) → Result (Given Reply)
tried_with n r (ok g) = elim (ltb n list_limit) [ true ↦ refused (Word word_short) | false ↦ given g.answer r ]
tried_with n r (refused w) = elim (ltb n list_limit && not (eqb (number w) word_unknown)) [ true ↦ refused (Word word_short) | false ↦ refused w ]

unfoldable pub try_rows : Load → ℕ → Rows → Result (Given Reply)
try_rows c n r = tried_with n r (load_rows c r)

-- start of task k. 3 12 5 7 18 10
unfoldable pub start_rows : ℕ → ℕ → ℕ → ℕ → ℕ → Rows → Result (Given Reply)
start_rows k l n m v r =
    need (ltb k task_limit) (Word word_unknown) >>= λ _. started k l n m v (world_of r) r.objects (frames_in k r) >>= λ o. given Accepted (closed (progressed k r o))

-- drop of task k. 3
unfoldable pub drop_rows : ℕ → Rows → Result (Given Reply)
drop_rows k r = need (ltb k task_limit) (Word word_unknown) >>= λ _. given Accepted (closed (with_frames k [] r))

-- sweep: every object that no frame reaches is freed; the answer is their number. No refusal but 'broken'.
unfoldable pub sweep_rows : Rows → Result (Given Reply)
sweep_rows r =
    let R = reached r.objects (r.quote ++ r.report) in
    given (Swept (freed_from R 0 r.objects)) (closed (with_objects (swept_from R 0 r.objects) r))

-- take back: the latest load that changed the store is undone, where nothing closed it. 19
unfoldable pub taken_back : List Level → Rows → Result (Given Reply)
taken_back [] r = refused (Word word_late)
taken_back (l ∷ ls) r = given Accepted (with_trace ls (cut_to l r))

abbrev pub take_back_rows : Rows → Result (Given Reply)
take_back_rows r = taken_back r.trace r

-- step: one instruction of the quote if it has a frame, else of the report; w is what the rows' classes, cache and constraints are

unfoldable pub answer_of : ℕ → Option ℕ → Answer
answer_of k none = Ran k
answer_of k (some n) = Finished k n

unfoldable pub step_task : ℕ → World → Frame → List Frame → Rows → Result (Given Answer)
step_task k w f fs r = step k w r.objects f fs >>= λ o. given (answer_of k o.result) (closed (progressed k r o))

unfoldable pub step_on : List Frame → List Frame → World → Rows → Result (Given Answer)
step_on (f ∷ fs) gs w r = step_task 0 w f fs r
step_on [] (f ∷ fs) w r = step_task 1 w f fs r
step_on [] [] w r = given Idle r

unfoldable pub step_rows : Rows → Result (Given Answer)
step_rows r = step_on r.quote r.report (world_of r) r

-- the task whose turn it is, which a step's 'wanted' names
unfoldable pub turn_of : List Frame → ℕ
turn_of [] = 1
turn_of (f ∷ fs) = 0

unfoldable pub turn : Rows → ℕ
turn r = turn_of r.quote

-- On tables: an answer with the tables that the call leaves. Broken tables and refusals alter nothing.

pub record Done (A : Type 0) : Type 0 where
  pub answer : A
  pub tables : Tables

abbrev pub done : {A : Type 0} → A → Tables → Done A
done a t = record { answer = a; tables = t }

unfoldable pub carried : {A : Type 0} → (Refusal → A) → Tables → Result (Given A) → Done A
carried deny t (refused w) = done (deny w) t
carried deny t (ok g) = done g.answer (put g.rows t)

unfoldable pub wrap : {A : Type 0} → (Refusal → A) → (Rows → Result (Given A)) → Tables → Done A
wrap {A} deny f t = elim (broken t) as (λ _. Done A) [ true ↦ done (deny (Word word_broken)) t | false ↦ carried deny t (f (view t)) ]

-- boot checks the lengths alone
unfoldable pub boot : Tables → Done Reply
boot t = elim (shaped t) as (λ _. Done Reply) [ true ↦ done Accepted (put boot_rows t) | false ↦ done (Denied (Word word_broken)) t ]

unfoldable pub step_tables : Tables → Done Answer
step_tables t = wrap Refused step_rows t

-- run: up to n steps, ended by the first answer other than ran; k ran before, and the last answer was a

abbrev pub go_on : (ℕ → Answer → Tables → Done Reply) → ℕ → Answer → Tables → Done Reply
go_on go k Idle t = done (RanFor k Idle) t
go_on go k (Ran j) t = go (suc k) (Ran j) t
go_on go k (Finished j n) t = done (RanFor k (Finished j n)) t
go_on go k (Refused w) t = done (RanFor k (Refused w)) t

module _ (one : Tables → Done Answer) where
  unfoldable pub run_from : ℕ → ℕ → Answer → Tables → Done Reply
  run_from zero k a t = done (RanFor k a) t
  run_from (suc n) k a t = let d = one t in go_on (run_from n) k d.answer d.tables

-- n is 1 to 65,535. Refusals: 1 3
unfoldable pub run : ℕ → Tables → Done Reply
run n t = elim (broken t) as (λ _. Done Reply) [
  | true ↦ done (Denied (Word word_broken)) t
  | false ↦ elim (leb 1 n && leb n run_limit) as (λ _. Done Reply) [ true ↦ run_from step_tables n 0 Idle t | false ↦ done (Denied (Word word_unknown)) t ]
]

-- A call but boot, step and run refuses or puts rows: what it does is said on rows alone
pub data RowCall : Type 0 where
  row_define : ℕ → List ℕ → RowCall
  row_record : ℕ → ℕ → ℕ → RowCall
  row_start : ℕ → ℕ → ℕ → ℕ → ℕ → RowCall
  row_drop : ℕ → RowCall
  row_sweep : RowCall
  row_try : Load → ℕ → RowCall
  row_take_back : RowCall

abbrev pub on_row_call : RowCall → Rows → Result (Given Reply)
on_row_call (row_define l bs) = define_rows l bs
on_row_call (row_record l n c) = record_rows l n c
on_row_call (row_start k l n m v) = start_rows k l n m v
on_row_call (row_drop k) = drop_rows k
on_row_call row_sweep = sweep_rows
on_row_call (row_try c n) = try_rows c n
on_row_call row_take_back = take_back_rows

-- a load as a call
abbrev pub load_call : Load → RowCall
load_call (load_define l bs) = row_define l bs
load_call (load_record l n c) = row_record l n c

pub data Call : Type 0 where
  call_boot : Call
  call_rows : RowCall → Call
  call_step : Call
  call_run : ℕ → Call

-- those on rows, by their names

abbrev pub call_define : ℕ → List ℕ → Call
call_define l bs = call_rows (row_define l bs)

abbrev pub call_record : ℕ → ℕ → ℕ → Call
call_record l n c = call_rows (row_record l n c)

abbrev pub call_start : ℕ → ℕ → ℕ → ℕ → ℕ → Call
call_start k l n m v = call_rows (row_start k l n m v)

abbrev pub call_drop : ℕ → Call
call_drop k = call_rows (row_drop k)

abbrev pub call_sweep : Call
call_sweep = call_rows row_sweep

abbrev pub call_try : Load → ℕ → Call
call_try c n = call_rows (row_try c n)

abbrev pub call_take_back : Call
call_take_back = call_rows row_take_back

-- the words that each call may refuse with, in the order in which the definitions above test them; a run's last answer may be any of a step's
unfoldable pub step_refusals : List ℕ
step_refusals = word_broken ∷ word_stuck ∷ word_wanted ∷ word_absent ∷ word_share ∷ word_full ∷ word_clash ∷ word_null ∷ word_divisor ∷ []

-- a load's after 'unknown'
unfoldable pub load_refusals : Load → List ℕ
load_refusals (load_define l bs) = word_file ∷ word_unmapped ∷ word_unverified ∷ word_taken ∷ word_wanted ∷ word_full ∷ word_clash ∷ []
load_refusals (load_record l n c) = word_misnamed ∷ word_taken ∷ word_full ∷ word_clash ∷ []

-- those of a call on rows come after 'broken'
unfoldable pub row_refusals : RowCall → List ℕ
row_refusals (row_define l bs) = word_unknown ∷ load_refusals (load_define l bs)
row_refusals (row_record l n c) = word_unknown ∷ load_refusals (load_record l n c)
row_refusals (row_start k l n m v) = word_unknown ∷ word_busy ∷ word_wanted ∷ word_absent ∷ word_share ∷ word_full ∷ []
row_refusals (row_drop k) = word_unknown ∷ []
row_refusals row_sweep = []
row_refusals (row_try c n) = word_unknown ∷ word_short ∷ load_refusals c
row_refusals row_take_back = word_late ∷ []

unfoldable pub refusals_of : Call → List ℕ
refusals_of call_boot = word_broken ∷ []
refusals_of (call_rows c) = word_broken ∷ row_refusals c
refusals_of call_step = step_refusals
refusals_of (call_run n) = word_broken ∷ word_unknown ∷ []

abbrev pub of_step : Done Answer → Done Reply
of_step d = done (Stepped d.answer) d.tables

unfoldable pub perform : Call → Tables → Done Reply
perform call_boot t = boot t
perform (call_rows c) t = wrap Denied (on_row_call c) t
perform call_step t = of_step (step_tables t)
perform (call_run n) t = run n t

-- Lists of calls: each call's answer, and the tables after the last
unfoldable pub perform_all : List Call → Tables → Done (List Reply)
perform_all [] t = done [] t
perform_all (c ∷ cs) t = let d = perform c t in let e = perform_all cs d.tables in done (d.answer ∷ e.answer) e.tables
