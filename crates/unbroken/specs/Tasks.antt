-- While the quote has a frame, no call but a boot, a start or a drop of the report changes the report's frames; and where it has none, nothing but its start gives it
-- one. A step that ran moved its task's frames, but for a goto to its own point.
use Rattle.std.proofs.Math.Path.{◌≡◌, refl, ap}
use Rattle.std.proofs.Common.{sym, ◌∙◌, subst, arith, ltb-true}
use Rattle.std.specs.Prelude.{Bool, true, false, ◌&&◌, ℕ, zero, suc, leb}
use Rattle.std.proofs.Math.Option.{Option, none, some}
use mathlib.Core.List.{List, [], ◌∷◌}
use Rattle.std.proofs.Math.ListN.{length}
use Rattle.definition.specs.declared.Refusal.TheVariants.{Word}
use Rattle.definition.specs.declared.Answer.{Answer}
use Rattle.definition.specs.declared.Answer.TheVariants.{Idle, Ran, Refused}
use Rattle.definition.specs.declared.Reply.{Reply}
use Rattle.definition.specs.declared.Reply.TheVariants.{Denied}
use Rattle.definition.specs.Answers.{Result, refused, ok}
use Rattle.definition.specs.Constraints.{World}
use Rattle.definition.specs.Machine.{Frame, Progress, step}
use Rattle.definition.specs.Tables.{Tables, Level, shaped, Rows, cut_to, world_of, view, frames_in}
use Rattle.definition.specs.Broken.{broken}
use Rattle.definition.specs.Calls.{Given, boot, closed, progressed, define_rows, record_rows, start_rows, drop_rows, sweep_rows, taken_back, answer_of, step_task, step_on, step_rows, Done, done, step_tables, run_from, run, Call, call_boot, call_step, call_run, perform, RowCall, row_define, row_record, row_start, row_drop, row_sweep, row_try, row_take_back, on_row_call, call_rows}
use Rattle.laws.specs.Results.{bind_ok, need-ok, ok-inj}
use Rattle.laws.specs.Runs.{runs-end, run-keeps}
use Rattle.laws.specs.Wrapped.{Ok, ok_at, then}
use Rattle.laws.specs.Tried.{try-leaves}
use Rattle.unbroken.specs.Calls.{step-whole, rows_whole}
use Rattle.unbroken.specs.Progress.{Advances, Loops, step-advances}
use Rattle.unbroken.specs.Unbroken.{shown}
use Rattle.unbroken.specs.OnRows.{same-boot}

abbrev Kept : Tables → Answer → Rows → Type 0
Kept t a r = (r.report ≡ (view t).report) × ((k : ℕ) → a ≡ Ran k → r.quote ≡ [] → ⊥)

same-result : (k j : ℕ) (o : Option ℕ) → answer_of k o ≡ Ran j → (o ≡ none) × (k ≡ j)
unfolding answer_of
same-result k j none e = (refl, cc)
same-result k j (some n) e = let z : ◌≡◌ {A = ℕ} 0 1 = cc in absurd (omega arith)

task-ok : (k : ℕ) (w : World) (f : Frame) (fs : List Frame) (r : Rows) (g : Given Answer) → step_task k w f fs r ≡ ok g
    → (o : Progress) × (step k w r.objects f fs ≡ ok o) × (ok (record { answer = answer_of k o.result; rows = closed (progressed k r o) }) ≡ ok g)
unfolding step_task
task-ok k w f fs r g e = bind_ok _ _ e

step_kept : (t : Tables) → ((view t).quote ≡ [] → ⊥) → Kept t (step_tables t).answer (view (step_tables t).tables)
unfolding step_tables step_rows
step_kept t h = shown Refused step_rows (Kept t) t step-whole (λ w. (refl, λ k e. let z : ◌≡◌ {A = ℕ} 0 1 = cc in absurd (omega arith))) (λ _ g e. go (view t).quote (view t).report h g e)
  where
    r : Rows
    r = view t

    go : (q p : List Frame) → (q ≡ [] → ⊥) → (g : Given Answer) → step_on q p (world_of r) r ≡ ok g → Kept t g.answer g.rows
    go [] p h g e = absurd (h refl)
    go (f ∷ fs) p h g e =
        let d : step_task 0 (world_of r) f fs r ≡ ok g = unfold step_on in e in
        let a = task-ok 0 (world_of r) f fs r g d in
        let x : answer_of 0 a.0.result ≡ g.answer = cc a.2 in
        let y : closed (progressed 0 r a.0) ≡ g.rows = cc a.2 in (
          ap (λ (z : Rows). z.report) (sym y),
          λ k q n.
              (ok_at (Advances (Loops (world_of r) f) 0 r.objects (f ∷ fs)) _ (step-advances 0 (world_of r) r.objects f fs) a.0 a.1).left (same-result 0 k a.0.result (x ∙ q)).0
              (ap (λ (z : Rows). z.quote) y ∙ n),
        )

-- the task runs, and its frame stands at a goto to its own point
pub record TaskLoops (k : ℕ) (r : Rows) : Type 0 where
  pub frame : Frame
  pub others : List Frame
  pub task : frames_in k r ≡ frame ∷ others
  pub loops : Loops (world_of r) frame

-- a step that ran moved the frames of its task, but for such a goto
pub ran-moves : (t : Tables) (k : ℕ) → (step_tables t).answer ≡ Ran k → frames_in k (view (step_tables t).tables) ≡ frames_in k (view t) → TaskLoops k (view t)
unfolding step_tables step_rows
ran-moves t k = shown Refused step_rows (λ a z. a ≡ Ran k → frames_in k z ≡ frames_in k r → TaskLoops k r) t step-whole (λ w e. let z : ◌≡◌ {A = ℕ} 0 1 = cc in absurd (omega arith))
    (λ _ g e. go r.quote r.report refl refl g e)
  where
    r : Rows
    r = view t

    moved : (j : ℕ) (f : Frame) (fs : List Frame) → frames_in j r ≡ f ∷ fs → ((o : Progress) → frames_in j (progressed j r o) ≡ o.frames)
        → (g : Given Answer) → step_task j (world_of r) f fs r ≡ ok g → g.answer ≡ Ran k → frames_in k g.rows ≡ frames_in k r → TaskLoops k r
    moved j f fs q is g e a s =
        let o = task-ok j (world_of r) f fs r g e in
        let x : answer_of j o.0.result ≡ g.answer = cc o.2 in
        let y : closed (progressed j r o.0) ≡ g.rows = cc o.2 in
        let n = same-result j k o.0.result (x ∙ a) in
        let z : frames_in j g.rows ≡ frames_in j r = subst (λ (i : ℕ). frames_in i g.rows ≡ frames_in i r) (sym n.1) s in
        subst (λ (i : ℕ). TaskLoops i r) n.1 (record {
          frame = f;
          others = fs;
          task = q;
          loops = (ok_at (Advances (Loops (world_of r) f) j r.objects (f ∷ fs)) _ (step-advances j (world_of r) r.objects f fs) o.0 o.1).moved n.0
              (sym (is o.0) ∙ ap (frames_in j) y ∙ z ∙ q);
        })

    go : (q p : List Frame) → r.quote ≡ q → r.report ≡ p → (g : Given Answer) → step_on q p (world_of r) r ≡ ok g → g.answer ≡ Ran k → frames_in k g.rows ≡ frames_in k r → TaskLoops k r
    go (f ∷ fs) p x y g e = moved 0 f fs x (λ o. refl) g (unfold step_on in e)
    go [] (f ∷ fs) x y g e = moved 1 f fs y (λ o. refl) g (unfold step_on in e)
    go [] [] x y g e = λ a. let z : ok (record { answer = Idle; rows = r }) ≡ ok g = unfold step_on in e in let n : ◌≡◌ {A = ℕ} 0 1 = cc in absurd (omega arith)

-- a run, which goes on only while the quote runs
run-kept : (n : ℕ) (t : Tables) → ((view t).quote ≡ [] → ⊥) → (view (run n t).tables).report ≡ (view t).report
unfolding run
run-kept n t h = go (broken t) (leb 1 n && leb n 65535)
  where
    Quoting : Tables → Type 0
    Quoting s = ((view s).report ≡ (view t).report) × ((view s).quote ≡ [] → ⊥)

    steps : (view (run_from step_tables n 0 Idle t).tables).report ≡ (view t).report
    steps = (runs-end step_tables Quoting (λ _ s. (view s).report ≡ (view t).report) (λ s i. (step_kept s i.1).0 ∙ i.0)
        (λ s j i e. ((step_kept s i.1).0 ∙ i.0, (step_kept s i.1).1 j e)) n 0 Idle t (refl, h) refl).holds

    go : (b c : Bool) → (view (elim b as (λ _. Done Reply) [ true ↦ done (Denied (Word 1)) t | false ↦ elim c as (λ _. Done Reply) [ true ↦ run_from step_tables n 0 Idle t | false ↦ done (Denied (Word 3)) t ] ]).tables).report ≡ (view t).report
    go true c = refl
    go false true = steps
    go false false = refl

-- a boot, a start of the report, a drop of the report
abbrev pub MovesReportRows : RowCall → Type 0
MovesReportRows (row_define l bs) = ⊥
MovesReportRows (row_record l n c) = ⊥
MovesReportRows (row_start k l n m v) = k ≡ 1
MovesReportRows (row_drop k) = k ≡ 1
MovesReportRows row_sweep = ⊥
MovesReportRows (row_try c n) = ⊥
MovesReportRows row_take_back = ⊥

abbrev pub MovesReport : Call → Type 0
MovesReport call_boot = Unit {0}
MovesReport (call_rows c) = MovesReportRows c
MovesReport call_step = ⊥
MovesReport (call_run n) = ⊥

abbrev Stays : Tables → Reply → Rows → Type 0
Stays t a r = r.report ≡ (view t).report

define-stays : (l : ℕ) (bs : List ℕ) (r : Rows) → Ok (define_rows l bs r) (λ g. g.rows.report ≡ r.report)
unfolding define_rows
define-stays l bs r = then R _ _ (λ _ _. then R _ _ (λ _ _. then R _ _ (λ _ _. refl)))
  where
    R : Given Reply → Type 0
    R g = g.rows.report ≡ r.report

record-stays : (l n c : ℕ) (r : Rows) → Ok (record_rows l n c r) (λ g. g.rows.report ≡ r.report)
unfolding record_rows
record-stays l n c r = then (λ (g : Given Reply). g.rows.report ≡ r.report) _ _ (λ _ _. refl)

start-stays : (k l n m v : ℕ) (r : Rows) → (k ≡ 1 → ⊥) → Ok (start_rows k l n m v r) (λ g. g.rows.report ≡ r.report)
unfolding start_rows
start-stays zero l n m v r h = then (λ g. g.rows.report ≡ r.report) _ _ (λ _ _. then (λ g. g.rows.report ≡ r.report) _ _ (λ _ _. refl))
start-stays (suc zero) l n m v r h = absurd (h refl)
start-stays (suc (suc k)) l n m v r h = then (λ g. g.rows.report ≡ r.report) _ _ (λ _ e. absurd (let z = ltb-true (suc (suc k)) 2 (need-ok _ _ e) in omega arith))

drop-stays : (k : ℕ) (r : Rows) → (k ≡ 1 → ⊥) → Ok (drop_rows k r) (λ g. g.rows.report ≡ r.report)
unfolding drop_rows
drop-stays zero r h = then (λ g. g.rows.report ≡ r.report) _ _ (λ _ _. refl)
drop-stays (suc zero) r h = absurd (h refl)
drop-stays (suc (suc k)) r h = then (λ g. g.rows.report ≡ r.report) _ _ (λ _ e. absurd (let z = ltb-true (suc (suc k)) 2 (need-ok _ _ e) in omega arith))

taken-stays : (ls : List Level) (r : Rows) → Ok (taken_back ls r) (λ g. g.rows.report ≡ r.report)
unfolding taken_back cut_to
taken-stays [] r = tt
taken-stays (l ∷ ls) r = refl

rows_stay : (c : RowCall) (r : Rows) → (MovesReportRows c → ⊥) → Ok (on_row_call c r) (λ g. g.rows.report ≡ r.report)
rows_stay (row_define l bs) r h = define-stays l bs r
rows_stay (row_record l n c) r h = record-stays l n c r
rows_stay (row_start k l n m v) r h = start-stays k l n m v r h
rows_stay (row_drop k) r h = drop-stays k r h
rows_stay row_sweep r h = unfold sweep_rows in refl
rows_stay (row_try c n) r h = try-leaves (λ s. s.report ≡ r.report) c n r refl
rows_stay row_take_back r h = taken-stays r.trace r

pub report-stays : (c : Call) (t : Tables) → ((view t).quote ≡ [] → ⊥) → (MovesReport c → ⊥) → (view (perform c t).tables).report ≡ (view t).report
unfolding perform
report-stays call_boot t h m = absurd (m tt)
report-stays (call_rows c) t h m = shown Denied (on_row_call c) (Stays t) t (λ r w. rows_whole r w c) (λ w. refl) (λ _ g e. ok_at _ _ (rows_stay c (view t) m) g e)
report-stays call_step t h m = (step_kept t h).0
report-stays (call_run n) t h m = run-kept n t h

-- Where the report has no frame, nothing but its start gives it one

abbrev pub StartsReport : Call → Type 0
StartsReport call_boot = ⊥
StartsReport (call_rows (row_define l bs)) = ⊥
StartsReport (call_rows (row_record l n c)) = ⊥
StartsReport (call_rows (row_start k l n m v)) = k ≡ 1
StartsReport (call_rows (row_drop k)) = ⊥
StartsReport (call_rows row_sweep) = ⊥
StartsReport (call_rows (row_try c n)) = ⊥
StartsReport (call_rows row_take_back) = ⊥
StartsReport call_step = ⊥
StartsReport (call_run n) = ⊥

drop-none : (k : ℕ) (r : Rows) → r.report ≡ [] → Ok (drop_rows k r) (λ g. g.rows.report ≡ [])
unfolding drop_rows
drop-none zero r e = then (λ g. g.rows.report ≡ []) _ _ (λ _ _. e)
drop-none (suc k) r e = then (λ g. g.rows.report ≡ []) _ _ (λ _ _. refl)

rows_none : (c : RowCall) (r : Rows) → (StartsReport (call_rows c) → ⊥) → r.report ≡ [] → Ok (on_row_call c r) (λ g. g.rows.report ≡ [])
rows_none c r h e = go c h
  where
    stays : (o : Result (Given Reply)) → Ok o (λ g. g.rows.report ≡ r.report) → Ok o (λ g. g.rows.report ≡ [])
    stays (refused w) q = tt
    stays (ok g) q = q ∙ e

    go : (c : RowCall) → (StartsReport (call_rows c) → ⊥) → Ok (on_row_call c r) (λ g. g.rows.report ≡ [])
    go (row_define l bs) h = stays (on_row_call (row_define l bs) r) (rows_stay (row_define l bs) r (λ z. z))
    go (row_record l n c) h = stays (on_row_call (row_record l n c) r) (rows_stay (row_record l n c) r (λ z. z))
    go (row_start k l n m v) h = stays (on_row_call (row_start k l n m v) r) (rows_stay (row_start k l n m v) r h)
    go (row_drop k) h = drop-none k r e
    go row_sweep h = stays (on_row_call row_sweep r) (rows_stay row_sweep r (λ z. z))
    go (row_try c n) h = stays (on_row_call (row_try c n) r) (rows_stay (row_try c n) r (λ z. z))
    go row_take_back h = stays (on_row_call row_take_back r) (rows_stay row_take_back r (λ z. z))

pub step-none : (t : Tables) → (view t).report ≡ [] → (view (step_tables t).tables).report ≡ []
unfolding step_tables step_rows
step-none t idle = shown Refused step_rows (λ _ s. s.report ≡ []) t step-whole (λ w. idle) (λ _ g e. go (view t).quote (view t).report idle g e)
  where
    r : Rows
    r = view t

    go : (q p : List Frame) → p ≡ [] → (g : Given Answer) → step_on q p (world_of r) r ≡ ok g → g.rows.report ≡ []
    go (f ∷ fs) p n g e =
        let d : step_task 0 (world_of r) f fs r ≡ ok g = unfold step_on in e in
        let a = task-ok 0 (world_of r) f fs r g d in
        let y : closed (progressed 0 r a.0) ≡ g.rows = cc a.2 in
        ap (λ (z : Rows). z.report) (sym y) ∙ idle
    go [] [] n g e = let d : ok (record { answer = Idle; rows = r }) ≡ ok g = unfold step_on in e in ap (λ (z : Given Answer). z.rows.report) (sym (ok-inj d)) ∙ idle
    go [] (f ∷ fs) n g e = absurd (let l : length (f ∷ fs) ≡ length {A = Frame} [] = ap length n in omega arith)

pub report-none : (c : Call) → (StartsReport c → ⊥) → (t : Tables) → (view t).report ≡ [] → (view (perform c t).tables).report ≡ []
unfolding perform
report-none call_boot h t e = go (shaped t) refl
  where
    go : (b : Bool) → shaped t ≡ b → (view (boot t).tables).report ≡ []
    go true s = ap (λ (r : Rows). r.report) (same-boot t s).1.rows
    go false s = unfold boot in rw (s, boot) e
report-none (call_rows c) h t e = shown Denied (on_row_call c) (λ _ s. s.report ≡ []) t (λ r w. rows_whole r w c) (λ w. e) (λ _ g q. ok_at (λ (g : Given Reply). g.rows.report ≡ []) _ (rows_none c (view t) h e) g q)
report-none call_step h t e = step-none t e
report-none (call_run n) h t e = run-keeps (λ s. (view s).report ≡ []) step-none n t e
