-- Turns: a report's instruction runs only while no quote has a frame, and a step is idle only if neither task has one.
use Rattle.std.specs.Prelude.{◌≡◌, false, ℕ}
use Rattle.std.proofs.Math.Path.{refl}
use Rattle.std.proofs.Common.{sym, ap, ◌∙◌, arith}
use Rattle.std.proofs.Math.Option.{Option, none, some, none-ne-some, some-injective}
use mathlib.Core.List.{List, [], ◌∷◌}
use Rattle.definition.specs.declared.Refusal.{Refusal}
use Rattle.definition.specs.declared.Answer.{Answer}
use Rattle.definition.specs.declared.Answer.TheVariants.{Idle, Ran, Finished, Refused}
use Rattle.definition.specs.Answers.{ok}
use Rattle.definition.specs.Constraints.{World}
use Rattle.definition.specs.Machine.{Frame}
use Rattle.definition.specs.Tables.{Tables, Rows, world_of, view}
use Rattle.definition.specs.Broken.{broken}
use Rattle.definition.specs.Calls.{Given, Done, carried, answer_of, step_task, step_on, step_rows, step_tables}
use Rattle.laws.specs.Results.{bind_ok}
use Rattle.laws.specs.Wrapped.{wrapped, wrap-carried}
use Rattle.laws.specs.Runs.{after}

-- the task that a step's answer names
abbrev pub task_of : Answer → Option ℕ
task_of Idle = none
task_of (Ran k) = some k
task_of (Finished k n) = some k
task_of (Refused w) = none

none-some : {A : Type 0} → Path (Option ℕ) none (some 1) → A
none-some e = absurd (none-ne-some 1 e)

of-task : (k : ℕ) (o : Option ℕ) → task_of (answer_of k o) ≡ some k
unfolding answer_of
of-task k none = refl
of-task k (some n) = refl

task-answer : (k : ℕ) (w : World) (f : Frame) (fs : List Frame) (r : Rows) (g : Given Answer) → step_task k w f fs r ≡ ok g → task_of g.answer ≡ some k
unfolding step_task
task-answer k w f fs r g e =
    let a = bind_ok _ _ e in
    let z : answer_of k a.0.result ≡ g.answer = cc a.2 in
    rw (sym z) (of-task k a.0.result)

no-quote : (q p : List Frame) (w : World) (r : Rows) (g : Given Answer) → step_on q p w r ≡ ok g → task_of g.answer ≡ some 1 → q ≡ []
unfolding step_on
no-quote (f ∷ fs) p w r g e h = let z : ◌≡◌ {A = ℕ} 0 1 = some-injective 0 1 (sym (task-answer 0 w f fs r g e) ∙ h) in absurd (omega arith)
no-quote [] (f ∷ fs) w r g e h = refl
no-quote [] [] w r g e h = refl

-- a step that ran or finished with task 1 was taken with no frame of task 0, on any tables
pub report-waits : (t : Tables) → task_of (step_tables t).answer ≡ some 1 → (view t).quote ≡ []
unfolding step_tables step_rows
report-waits t =
    wrapped Refused step_rows t (λ a _. task_of a ≡ some 1 → (view t).quote ≡ []) (λ _. none-some) (λ _ _. none-some)
    (λ _ g e h. no-quote (view t).quote (view t).report (world_of (view t)) (view t) g e h)

-- and so was each step of a run: its i-th step is a step of the tables after i steps
pub report-waits-in-run : (i : ℕ) (t : Tables) → task_of (step_tables (after step_tables i t)).answer ≡ some 1 → (view (after step_tables i t)).quote ≡ []
report-waits-in-run i t = report-waits (after step_tables i t)

-- a step is idle only if neither task has a frame
pub idle-empty : (t : Tables) → (step_tables t).answer ≡ Idle → ((view t).quote ≡ []) × ((view t).report ≡ [])
unfolding step_tables step_rows
idle-empty t = wrapped Refused step_rows t (λ a _. a ≡ Idle → ((view t).quote ≡ []) × ((view t).report ≡ [])) (λ _. denied) (λ _ _. denied)
    (λ _ g e h. go (view t).quote (view t).report g e h)
  where
    denied : {A : Type 0} {w : Refusal} → Path Answer (Refused w) Idle → A
    denied e = let z : ◌≡◌ {A = ℕ} 0 1 = cc in absurd (omega arith)

    took : {A : Type 0} (k : ℕ) (g : Given Answer) → task_of g.answer ≡ some k → g.answer ≡ Idle → A
    took k g h e = absurd (none-ne-some k (sym (ap task_of e) ∙ h))

    go : (q p : List Frame) (g : Given Answer) → step_on q p (world_of (view t)) (view t) ≡ ok g → g.answer ≡ Idle → (q ≡ []) × (p ≡ [])
    go (f ∷ fs) p g e h = took 0 g (task-answer 0 (world_of (view t)) f fs (view t) g (unfold step_on in e)) h
    go [] (f ∷ fs) g e h = took 1 g (task-answer 1 (world_of (view t)) f fs (view t) g (unfold step_on in e)) h
    go [] [] g e h = (refl, refl)

-- and it is, where the store isn't broken
pub empty-idle : (t : Tables) → broken t ≡ false → (view t).quote ≡ [] → (view t).report ≡ [] → (step_tables t).answer ≡ Idle
unfolding step_tables step_rows
empty-idle t h q p = ap (λ (d : Done Answer). d.answer) (wrap-carried Refused step_rows t h) ∙ go (view t).quote (view t).report q p
  where
    go : (x y : List Frame) → x ≡ [] → y ≡ [] → (carried Refused t (step_on x y (world_of (view t)) (view t))).answer ≡ Idle
    go x y e d = unfold step_on carried in rw (e, d) refl
