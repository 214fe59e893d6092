-- First that applies: for every call on every tables, the number of the answer is the word of the first cause that applies, and 0 if none does. The causes
-- stand in the paper's order (`in-order`).
use Rattle.std.specs.Prelude.{◌≡◌, Bool, true, not, ◌&&◌, ℕ, suc, eqb, leb}
use Rattle.std.proofs.Math.Path.{refl, sym, ap}
use Rattle.std.proofs.Common.{◌∙◌, arith, eq-eqb}
use Rattle.std.proofs.Math.Bool.{false}
use Rattle.std.proofs.Math.Option.{none, some}
use mathlib.Core.List.{List, [], ◌∷◌, ◌++◌}
use Rattle.definition.specs.Lists.{any}
use Rattle.definition.specs.declared.Refusal.{Refusal}
use Rattle.definition.specs.declared.Refusal.TheVariants.{Word}
use Rattle.definition.specs.declared.Answer.{Answer}
use Rattle.definition.specs.declared.Answer.TheVariants.{Idle, Ran, Finished, Refused}
use Rattle.definition.specs.declared.Reply.{Reply}
use Rattle.definition.specs.declared.Reply.TheVariants.{Accepted, Defined, Stepped, RanFor, Swept, Denied}
use Rattle.definition.specs.Answers.{number, number_of_step, number_of, Result, refused, ok}
use Rattle.definition.specs.Machine.{Frame, step}
use Rattle.definition.specs.Tables.{Tables, shaped, Rows, world_of, view, put}
use Rattle.definition.specs.Broken.{broken}
use Rattle.definition.specs.Calls.{Given, boot_rows, step_task, step_on, step_rows, Done, done, carried, wrap, boot, step_tables, run_from, run, Call, call_boot, call_step, call_run, perform, on_row_call, call_rows, turn_of, turn}
use Rattle.laws.specs.Causes.{Cause, cause, first, frame_causes, row_causes, causes}
use Rattle.laws.specs.Refusals.{running}
use Rattle.laws.specs.Refused.{refusal, rows_taken, step_went, runs_taken}
use Rattle.laws.specs.Runs.{after, run-ends-refused}
use Rattle.laws.specs.Wrapped.{wrap-broken, wrap-carried, Ok}
use Rattle.layout.specs.Tests.{All}
use Rattle.layout.specs.Whole.{Whole}
use Rattle.layout.specs.Unbroken.{broken-false}
use Rattle.unbroken.specs.WholeRows.{ready}
use Rattle.unbroken.specs.Refusing.{number_in, number-on, first-skip, rows-first}
use Rattle.unbroken.specs.RefusingSteps.{step-first}

-- What `first` says

-- one that applies, after some that don't
pub found : (before : List Cause) (n : ℕ) (after : List Cause) → All (λ c. c.applies ≡ false) before → first (before ++ cause n true ∷ after) ≡ n
unfolding first
found [] n after h = refl
found (c ∷ before) n after h = rw (h.0, first) (found before n after h.1)

pub record First (cs : List Cause) (n : ℕ) : Type 0 where
  pub before : List Cause
  pub after : List Cause
  pub is : cs ≡ before ++ cause n true ∷ after
  pub others : All (λ c. c.applies ≡ false) before

-- and a word that is given is such a one
pub given : (cs : List Cause) (n : ℕ) → first cs ≡ suc n → First cs (suc n)
unfolding first
given [] n h = absurd (omega arith)
given (c ∷ cs) n h = go c.applies refl h (given cs n)
  where
    go : (b : Bool) → c.applies ≡ b → ◌≡◌ {A = ℕ} (elim b as (λ _. ℕ) [ true ↦ c.word | false ↦ first cs ]) (suc n) → (first cs ≡ suc n → First cs (suc n)) → First (c ∷ cs) (suc n)
    go true e q ih = record { before = []; after = cs; is = λ i. record { word = q i; applies = e i } ∷ cs; others = tt }
    go false e q ih = let f = ih q in record { before = c ∷ f.before; after = f.after; is = λ i. c ∷ f.is i; others = (e, f.others) }

-- 0 if none applies
pub clear : (cs : List Cause) → All (λ c. c.applies ≡ false) cs → first cs ≡ 0
unfolding first
clear [] h = refl
clear (c ∷ cs) h = rw (h.0, first) (clear cs h.1)

-- a word that is given applies
pub applied : (cs : List Cause) (n : ℕ) → first cs ≡ suc n → any (λ c. eqb c.word (suc n) && c.applies) cs ≡ true
unfolding first any
applied [] n h = absurd (omega arith)
applied (c ∷ cs) n h = go c.applies h (applied cs n)
  where
    go : (b : Bool) → ◌≡◌ {A = ℕ} (elim b as (λ _. ℕ) [ true ↦ c.word | false ↦ first cs ]) (suc n) → (first cs ≡ suc n → any (λ c. eqb c.word (suc n) && c.applies) cs ≡ true)
        → (elim (eqb c.word (suc n) && b) as (λ _. Bool) [ true ↦ true | false ↦ any (λ c. eqb c.word (suc n) && c.applies) cs ]) ≡ true
    go true q ih = rw (eq-eqb c.word (suc n) q) refl
    go false q ih = either (eqb c.word (suc n) && false) (ih q)
      where
        either : (b : Bool) → any (λ c. eqb c.word (suc n) && c.applies) cs ≡ true → (elim b as (λ _. Bool) [ true ↦ true | false ↦ any (λ c. eqb c.word (suc n) && c.applies) cs ]) ≡ true
        either true r = refl
        either false r = r

-- Steps

step-rows-first : (r : Rows) → Whole r → number_in (step_rows r) ≡ first (frame_causes (turn r) (world_of r) r.objects (running r.quote r.report))
unfolding step_rows turn turn_of
step-rows-first r w = go r.quote r.report
  where
    task : (k : ℕ) (f : Frame) (fs : List Frame) → number_in (step_task k (world_of r) f fs r) ≡ first (frame_causes k (world_of r) r.objects (f ∷ fs))
    task k f fs = unfold step_task in number-on (step k (world_of r) r.objects f fs) _ ∙ step-first k (world_of r) _ r.objects (ready r w) f fs

    go : (q p : List Frame) → number_in (step_on q p (world_of r) r) ≡ first (frame_causes (turn_of q) (world_of r) r.objects (running q p))
    go (f ∷ fs) p = unfold step_on in task 0 f fs
    go [] (f ∷ fs) = unfold step_on in task 1 f fs
    go [] [] = unfold step_on number_in first in refl

-- On tables

pub refusal-number : (a : Reply) (w : Refusal) → refusal a ≡ some w → number_of a ≡ number w
unfolding number_of number_of_step
refusal-number Accepted w h = cc
refusal-number (Defined c) w h = cc
refusal-number (Stepped Idle) w h = cc
refusal-number (Stepped (Ran k)) w h = cc
refusal-number (Stepped (Finished k n)) w h = cc
refusal-number (Stepped (Refused v)) w h = cc
refusal-number (RanFor k s) w h = cc
refusal-number (Swept n) w h = cc
refusal-number (Denied v) w h = cc

pub zero_number : (a : Reply) → refusal a ≡ none → number_of a ≡ 0
unfolding number_of number_of_step
zero_number Accepted h = refl
zero_number (Defined c) h = refl
zero_number (Stepped Idle) h = refl
zero_number (Stepped (Ran k)) h = refl
zero_number (Stepped (Finished k n)) h = refl
zero_number (Stepped (Refused w)) h = cc
zero_number (Swept n) h = refl
zero_number (RanFor k s) h = refl
zero_number (Denied w) h = cc

module _ {A : Type 0} (deny : Refusal → A) (says : A → Reply) (is : (w : Refusal) → number_of (says (deny w)) ≡ number w) (f : Rows → Result (Given A)) (t : Tables) (cs : List Cause) where
  carried-number : (o : Result (Given A)) → Ok o (λ g. refusal (says g.answer) ≡ none) → number_of (says (carried deny t o).answer) ≡ number_in o
  unfolding carried number_in
  carried-number (refused w) h = is w
  carried-number (ok g) h = zero_number (says g.answer) h

  wrap-first : Ok (f (view t)) (λ g. refusal (says g.answer) ≡ none) → (Whole (view t) → number_in (f (view t)) ≡ first cs) → number_of (says (wrap deny f t).answer) ≡ first (cause 1 (broken t) ∷ cs)
  wrap-first taken h = go (broken t) refl
    where
      go : (b : Bool) → broken t ≡ b → number_of (says (wrap deny f t).answer) ≡ first (cause 1 b ∷ cs)
      go true e = ap (λ (d : Done A). number_of (says d.answer)) (wrap-broken deny f t e) ∙ is (Word 1) ∙ (unfold number first in refl)
      go false e = ap (λ (d : Done A). number_of (says d.answer)) (wrap-carried deny f t e) ∙ carried-number (f (view t)) taken ∙ h (broken-false t e).1 ∙ sym (first-skip 1 cs)

boot-first : (t : Tables) → number_of (boot t).answer ≡ first (cause 1 (not (shaped t)) ∷ [])
unfolding boot number_of number first
boot-first t = go (shaped t)
  where
    go : (b : Bool) → number_of (elim b as (λ _. Done Reply) [ true ↦ done Accepted (put boot_rows t) | false ↦ done (Denied (Word 1)) t ]).answer ≡ first (cause 1 (not b) ∷ [])
    go true = refl
    go false = refl

run-first : (n : ℕ) (t : Tables) → number_of (run n t).answer ≡ first (cause 1 (broken t) ∷ cause 3 (not (leb 1 n && leb n 65535)) ∷ [])
unfolding run number_of number first
run-first n t = go (broken t) (leb 1 n && leb n 65535)
  where
    go : (b c : Bool) → number_of (elim b as (λ _. Done Reply) [ true ↦ done (Denied (Word 1)) t | false ↦ elim c as (λ _. Done Reply) [ true ↦ run_from step_tables n 0 Idle t | false ↦ done (Denied (Word 3)) t ] ]).answer
        ≡ first (cause 1 b ∷ cause 3 (not c) ∷ [])
    go true c = refl
    go false true = zero_number (run_from step_tables n 0 Idle t).answer (runs_taken n t)
    go false false = refl

-- every call, every tables
pub first-applies : (c : Call) (t : Tables) → number_of (perform c t).answer ≡ first (causes c t)
unfolding perform causes number_of number_of_step step_tables
first-applies call_boot t = boot-first t
first-applies (call_rows c) t = wrap-first Denied (λ a. a) (λ w. refl) (on_row_call c) t (row_causes c (view t)) (rows_taken c (view t)) (λ _. rows-first (view t) c)
first-applies call_step t = wrap-first Refused Stepped (λ w. refl) step_rows t _ (step_went (view t)) (λ w. step-rows-first (view t) w)
first-applies (call_run n) t = run-first n t

-- and so of the step that a run ends in: its word is the first that applies to a step on the tables after the k steps that ran
pub run-applies : (n : ℕ) (t : Tables) (k : ℕ) (w : Refusal) → (perform (call_run n) t).answer ≡ RanFor k (Refused w) → number w ≡ first (causes call_step (after step_tables k t))
unfolding perform number_of number_of_step
run-applies n t k w e =
    let r = run-ends-refused n t k w e in
    ap (λ (a : Answer). number_of (Stepped a)) (sym r.answers) ∙ first-applies call_step (after step_tables k t)
