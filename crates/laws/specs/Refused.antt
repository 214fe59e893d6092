-- A call that is refused leaves every table as it was, whatever the tables hold; its word is one of those that the paper lists for it; and where it
-- wants a request, that is the one it needs, which isn't cached.
use Rattle.std.specs.Prelude.{◌≡◌, Bool, true, false, ◌&&◌, ℕ, eqb, leb}
use Rattle.std.proofs.Math.Path.{refl}
use Rattle.std.proofs.Common.{sym, ap, ◌∙◌, subst, arith}
use Rattle.std.proofs.Math.Option.{Option, none, some}
use mathlib.Core.List.{List, [], ◌∷◌}
use Rattle.definition.specs.declared.Refusal.{Refusal}
use Rattle.definition.specs.declared.Refusal.TheVariants.{Wanted, Word}
use Rattle.definition.specs.declared.Answer.{Answer}
use Rattle.definition.specs.declared.Answer.TheVariants.{Idle, Ran, Finished, Refused}
use Rattle.definition.specs.declared.Reply.{Reply}
use Rattle.definition.specs.declared.Reply.TheVariants.{Accepted, Defined, Stepped, RanFor, Swept, Denied}
use Rattle.definition.specs.Lists.{any}
use Rattle.definition.specs.Requests.{at}
use Rattle.definition.specs.Answers.{number, Result, refused, ok}
use Rattle.definition.specs.Classes.{find}
use Rattle.definition.specs.Constraints.{World}
use Rattle.definition.specs.Machine.{Frame}
use Rattle.definition.specs.Tables.{Tables, shaped, Level, Rows, world_of, view, put}
use Rattle.definition.specs.Broken.{broken}
use Rattle.definition.specs.Calls.{Given, boot_rows, define_rows, record_rows, start_rows, drop_rows, sweep_rows, taken_back, answer_of, step_task, step_on, step_rows, Done, done, wrap, boot, step_tables, run_from, run, Call, call_boot, call_step, call_run, step_refusals, refusals_of, perform, RowCall, row_define, row_record, row_start, row_drop, row_sweep, row_try, row_take_back, Load, load_define, load_record, load_rows, try_rows, on_row_call, call_rows}
use Rattle.laws.specs.Wrapped.{wrapped, Ok, then, ok_at}
use Rattle.laws.specs.Runs.{after, run_is, run-ends-refused}
use Rattle.laws.specs.Refusals.{unmoved, try-either, Refuses, Needs, Due, due-listed, step-due, rows-due}

-- the refusal of a call, if it is one. A run that ends in a refused step is itself accepted.
abbrev pub refusal : Reply → Option Refusal
refusal Accepted = none
refusal (Defined c) = none
refusal (Stepped Idle) = none
refusal (Stepped (Ran k)) = none
refusal (Stepped (Finished k n)) = none
refusal (Stepped (Refused w)) = some w
refusal (RanFor k s) = none
refusal (Swept n) = none
refusal (Denied w) = some w

abbrev pub Taken : Given Reply → Type 0
Taken g = refusal g.answer ≡ none

abbrev pub Went : Given Answer → Type 0
Went g = refusal (Stepped g.answer) ≡ none

-- What is accepted on rows answers no refusal

define-taken : (l : ℕ) (bs : List ℕ) (r : Rows) → Ok (define_rows l bs r) Taken
unfolding define_rows
define-taken l bs r = then Taken _ _ (λ _ _. then Taken _ _ (λ _ _. then Taken _ _ (λ _ _. refl)))

record-taken : (l n c : ℕ) (r : Rows) → Ok (record_rows l n c r) Taken
unfolding record_rows
record-taken l n c r = then Taken _ _ (λ _ _. refl)

start-taken : (k l n m v : ℕ) (r : Rows) → Ok (start_rows k l n m v r) Taken
unfolding start_rows
start-taken k l n m v r = then Taken _ _ (λ _ _. then Taken _ _ (λ _ _. refl))

drop-taken : (k : ℕ) (r : Rows) → Ok (drop_rows k r) Taken
unfolding drop_rows
drop-taken k r = then Taken _ _ (λ _ _. refl)

load-taken : (c : Load) (r : Rows) → Ok (load_rows c r) Taken
load-taken (load_define l bs) r = define-taken l bs r
load-taken (load_record l n c) r = record-taken l n c r

try-taken : (c : Load) (n : ℕ) (r : Rows) → Ok (try_rows c n r) Taken
try-taken c n r = try-either (λ o. Ok o Taken) c n r tt (go (load_rows c r) (load-taken c r))
  where
    go : (o : Result (Given Reply)) → Ok o Taken → Ok (unmoved r o) Taken
    go (refused w) h = tt
    go (ok g) h = h

back-taken : (ls : List Level) (r : Rows) → Ok (taken_back ls r) Taken
unfolding taken_back
back-taken [] r = tt
back-taken (l ∷ ls) r = refl

pub rows_taken : (c : RowCall) (r : Rows) → Ok (on_row_call c r) Taken
rows_taken (row_define l bs) r = define-taken l bs r
rows_taken (row_record l n c) r = record-taken l n c r
rows_taken (row_start k l n m v) r = start-taken k l n m v r
rows_taken (row_drop k) r = drop-taken k r
rows_taken row_sweep r = unfold sweep_rows in refl
rows_taken (row_try c n) r = try-taken c n r
rows_taken row_take_back r = back-taken r.trace r

answer-went : (k : ℕ) (o : Option ℕ) → refusal (Stepped (answer_of k o)) ≡ none
unfolding answer_of
answer-went k none = refl
answer-went k (some n) = refl

task-went : (k : ℕ) (w : World) (f : Frame) (fs : List Frame) (r : Rows) → Ok (step_task k w f fs r) Went
unfolding step_task
task-went k w f fs r = then Went _ _ (λ o _. answer-went k o.result)

pub step_went : (r : Rows) → Ok (step_rows r) Went
unfolding step_rows
step_went r = go r.quote r.report
  where
    go : (q p : List Frame) → Ok (step_on q p (world_of r) r) Went
    go (f ∷ fs) p = unfold step_on in task-went 0 (world_of r) f fs r
    go [] (f ∷ fs) = unfold step_on in task-went 1 (world_of r) f fs r
    go [] [] = unfold step_on in refl

-- On tables: what holds of a refused call

never : {A : Type 0} (w : Refusal) (o : Option Refusal) → o ≡ none → o ≡ some w → A
never w o p q = absurd (let z : ◌≡◌ {A = ℕ} 0 1 = cc in omega arith)

-- the same tables, and a refusal that is due
pub record Refusing (c : Call) (t s : Tables) (w : Refusal) : Type 0 where
  pub same : s ≡ t
  pub due : Due c (view t) w

some_inj : (v w : Refusal) → Path (Option Refusal) (some v) (some w) → v ≡ w
some_inj v w e = cc

refuses-at : {A : Type 0} (P : Refusal → Type 0) (o : Result A) → Refuses P o → (w : Refusal) → o ≡ refused w → P w
refuses-at P (refused v) h w e = let z : v ≡ w = cc in subst P z h
refuses-at P (ok a) h w e = absurd (let z : ◌≡◌ {A = ℕ} 0 1 = cc in omega arith)

module _ {A : Type 0} (c : Call) (t : Tables) (deny : Refusal → A) (says : A → Option Refusal) (is : (w : Refusal) → says (deny w) ≡ some w)
    (f : Rows → Result (Given A)) (taken : Ok (f (view t)) (λ g. says g.answer ≡ none)) (due : Refuses (Due c (view t)) (f (view t))) (one : Due c (view t) (Word 1)) where
  wrap-refusing : (w : Refusal) → says (wrap deny f t).answer ≡ some w → Refusing c t (wrap deny f t).tables w
  wrap-refusing w = wrapped deny f t (λ a z. says a ≡ some w → Refusing c t z w)
      (λ _ q. record { same = refl; due = subst (Due c (view t)) (some_inj (Word 1) w (sym (is (Word 1)) ∙ q)) one })
      (λ v e q. record { same = refl; due = subst (Due c (view t)) (some_inj v w (sym (is v) ∙ q)) (refuses-at (Due c (view t)) (f (view t)) due v e) })
      (λ _ g e q. never w _ (ok_at (λ g. says g.answer ≡ none) _ taken g e) q)

boot-refusing : (t : Tables) (w : Refusal) → refusal (boot t).answer ≡ some w → Refusing call_boot t (boot t).tables w
unfolding boot refusals_of any
boot-refusing t w = go (shaped t)
  where
    D : Bool → Done Reply
    D b = elim b as (λ _. Done Reply) [ true ↦ done Accepted (put boot_rows t) | false ↦ done (Denied (Word 1)) t ]

    go : (b : Bool) → refusal (D b).answer ≡ some w → Refusing call_boot t (D b).tables w
    go true q = never w none refl q
    go false q = record { same = refl; due = subst (Due call_boot (view t)) (some_inj (Word 1) w q) refl }

pub runs_taken : (n : ℕ) (t : Tables) → refusal (run_from step_tables n 0 Idle t).answer ≡ none
runs_taken n t = ap (λ (d : Done Reply). refusal d.answer) (run_is step_tables n 0 Idle t).gives

run-refusing : (n : ℕ) (t : Tables) (w : Refusal) → refusal (run n t).answer ≡ some w → Refusing (call_run n) t (run n t).tables w
unfolding run refusals_of any
run-refusing n t w = go (broken t) (leb 1 n && leb n 65535)
  where
    D : Bool → Bool → Done Reply
    D b c = elim b as (λ _. Done Reply) [ true ↦ done (Denied (Word 1)) t | false ↦ elim c as (λ _. Done Reply) [ true ↦ run_from step_tables n 0 Idle t | false ↦ done (Denied (Word 3)) t ] ]

    go : (b c : Bool) → refusal (D b c).answer ≡ some w → Refusing (call_run n) t (D b c).tables w
    go true c q = record { same = refl; due = subst (Due (call_run n) (view t)) (some_inj (Word 1) w q) refl }
    go false true q = never w _ (runs_taken n t) q
    go false false q = record { same = refl; due = subst (Due (call_run n) (view t)) (some_inj (Word 3) w q) refl }

step-refusing : (t : Tables) (w : Refusal) → refusal (Stepped (step_tables t).answer) ≡ some w → Refusing call_step t (step_tables t).tables w
unfolding step_tables refusals_of step_refusals any
step-refusing t w = wrap-refusing call_step t Refused (λ a. refusal (Stepped a)) (λ w. refl) step_rows (step_went (view t)) (step-due (view t)) refl w

-- a refused call: the same tables, and a refusal that is due
pub refused-same : (c : Call) (t : Tables) (w : Refusal) → refusal (perform c t).answer ≡ some w → Refusing c t (perform c t).tables w
unfolding perform refusals_of any
refused-same call_boot t w q = boot-refusing t w q
refused-same (call_rows c) t w q = wrap-refusing (call_rows c) t Denied refusal (λ w. refl) (on_row_call c) (rows_taken c (view t)) (rows-due c (view t)) refl w q
refused-same call_step t w q = step-refusing t w q
refused-same (call_run n) t w q = run-refusing n t w q

-- its word is listed
pub refused-listed : (c : Call) (t : Tables) (w : Refusal) → refusal (perform c t).answer ≡ some w → any (eqb (number w)) (refusals_of c) ≡ true
refused-listed c t w q = due-listed c (view t) w (refused-same c t w q).due

-- what it wants, it needs, and it isn't cached
pub wanted-missing : (c : Call) (t : Tables) (l n : ℕ) → refusal (perform c t).answer ≡ some (Wanted l n) → Needs c (view t) l n × (find (view t).cache (at l n) ≡ none)
wanted-missing c t l n q = let d = (refused-same c t (Wanted l n) q).due in (d.1, d.2)

-- the same for each step
pub step-refused : (t : Tables) (w : Refusal) → (step_tables t).answer ≡ Refused w → Refusing call_step t (step_tables t).tables w
step-refused t w e = step-refusing t w (ap (λ (a : Answer). refusal (Stepped a)) e)

-- and for the step that a run ends in: the run leaves the tables as they were after the k steps that ran, and the refusal is due of a step on those
pub run-refusal : (n : ℕ) (t : Tables) (k : ℕ) (w : Refusal) → (perform (call_run n) t).answer ≡ RanFor k (Refused w)
    → Refusing call_step (after step_tables k t) (perform (call_run n) t).tables w
run-refusal n t k w e =
    let r = run-ends-refused n t k w e in
    let s = step-refused (after step_tables k t) w r.answers in
    record { same = r.leaves ∙ s.same; due = s.due }
