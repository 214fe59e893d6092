-- A call of both machines on tables of which today's carry the first document's, where no file of a later version is kept or brought, and which the first document's machine
-- doesn't refuse for a hidden field: the same answer, and tables that carry again.
use Rattle.std.specs.Prelude.{◌≡◌, ◌⊎◌, Bool, true, false, ◌&&◌, ℕ, zero, suc, ◌+◌, ◌<◌, leb}
use Rattle.std.proofs.Math.Path.{refl, ap}
use Rattle.std.proofs.Common.{sym, ◌∙◌, subst₂, arith}
use Rattle.std.proofs.Math.Logic.{inl, inr}
use mathlib.Core.List.{List, [], ◌∷◌}
use Rattle.std.proofs.Math.ListN.{length, get_or, set}
use Rattle.definition.specs.declared.Refusal.{Refusal}
use Rattle.definition.specs.declared.Refusal.TheVariants.{Word}
use Rattle.definition.specs.declared.Answer.{Answer}
use Rattle.definition.specs.declared.Answer.TheVariants.{Idle, Ran, Finished, Refused}
use Rattle.definition.specs.declared.Reply.{Reply}
use Rattle.definition.specs.declared.Reply.TheVariants.{Denied}
use Rattle.definition.specs.Numbers.{word_broken, word_unknown, word_hidden, word_share, run_limit, count_classes, count_kept}
use Rattle.definition.specs.Lists.{rows, write_rows}
use Rattle.definition.specs.Machine.{Frame}
use Rattle.definition.specs.Answers.{Result, refused, ok, number, number_of_step, number_of, ends_in}
use Rattle.definition.specs.Tables.{Tables, ClassRow, Rows, class_row_at, put_class_row, class_rows_of, kept_of, view}
use Rattle.laws.specs.Wrapped.{Ok, then}
use Rattle.layout.specs.Places.{rows-get_d}
use Rattle.layout.specs.Rows.{rows_back, cell-rows}
use Rattle.layout.specs.Fills.{classes-fill, kept-fill}
use Rattle.layout.specs.ReadBack.{Lengths, shaped-true}
use Rattle.layout.specs.Unbroken.{broken-false}
use Rattle.unbroken.specs.Calls.{boot-whole, boot-traced, rows_whole, step-whole}
use Rattle.unbroken.specs.Unbroken.{Unhurt, Keeps}
use Rattle.definition.specs.Calls.{Given, boot_rows, Done, done, carried, wrap, boot, step_rows, step_tables, go_on, run_from, run, on_row_call}
use Rattle.definition.specs.First.Tables.{FirstTables, first_counts_length, FirstRows, first_world_of, first_view_over, first_view, first_counts_of, first_put}
use Rattle.definition.specs.First.Broken.{first_broken}
use Rattle.definition.specs.First.Calls.{FirstGiven, FirstReply, first_boot_rows, FirstDone, first_carried, first_wrap, first_boot, first_step_task, first_step_on, first_step_rows, first_step_tables, first_run, FirstRowCall, first_on_row_call}
use Rattle.first.specs.SameObjects.{no_objects}
use Rattle.first.specs.Likewise.{Likewise}
use Rattle.first.specs.SameBases.{Early}
use Rattle.first.specs.SameRows.{SameRows, EarlyRows, BringsNone, FirstHidden, SameGiven, today_row, same-row-call, same-step-rows}
use Rattle.first.specs.Carries.{Carries, EarlyTables, early-rows, eight-counts, same-shaped, same-broken, same_store}
use Rattle.first.specs.Written.{same-rows-put}

pub record SameDone {A : Type 0} (d : FirstDone A) (e : Done A) : Type 0 where
  pub answer : d.answer ≡ e.answer
  pub tables : Carries d.tables e.tables

-- a test that both make, and what both do then
either : {A : Type 0} (R : FirstDone A → Done A → Type 0) (a b : Bool) (d d' : FirstDone A) (e e' : Done A) → a ≡ b → (a ≡ true → R d e) → (a ≡ false → R d' e')
    → R (elim a as (λ _. FirstDone A) [ true ↦ d | false ↦ d' ]) (elim b as (λ _. Done A) [ true ↦ e | false ↦ e' ])
either R true b d d' e e' p x y = rw (← p) (x refl)
either R false b d d' e e' p x y = rw (← p) (y refl)

-- what leaves the tables as they were
same_left : {A : Type 0} (a : A) (u : FirstTables) (t : Tables) → Carries u t → SameDone (done a u) (done a t)
same_left a u t h = record { answer = refl; tables = h }

pub same-boot : (u : FirstTables) (t : Tables) → Carries u t → SameDone (first_boot u) (boot t)
unfolding first_boot boot
same-boot u t h = either SameDone _ _ _ _ _ _ (same-shaped u t h.fronts)
    (λ s. record { answer = refl; tables = same-rows-put u t h.fronts (eight-counts u t h.fronts s) first_boot_rows boot_rows (record { rest = refl; objects = no_objects }) (shaped-true t (sym (same-shaped u t h.fronts) ∙ s)) boot-whole boot-traced })
    (λ _. same_left _ u t h)

-- alike, or today's answer tells of the report's share
abbrev pub Unless : {A : Type 0} → (A → Type 0) → FirstDone A → Done A → Type 0
Unless told d e = SameDone d e ⊎ told e.answer

-- a call on rows, where it is alike on the same rows, of the first document's such as `On` says
module _ {A : Type 0} (deny : Refusal → A) (told : A → Type 0) (tells : told (deny (Word word_share))) (f : FirstRows → Result (FirstGiven A)) (g : Rows → Result (Given A)) (On : FirstRows → Type 0)
    (alike : (r : FirstRows) (q : Rows) → SameRows r q → EarlyRows q → On r → Likewise SameGiven (f r) (g q)) (keeps : Keeps g) where
  same-carried : (u : FirstTables) (t : Tables) → Carries u t → Lengths t → length u.counts ≡ first_counts_length → (o : Result (FirstGiven A)) (p : Result (Given A))
      → Likewise SameGiven o p → Ok p Unhurt → Unless told (first_carried deny u o) (carried deny t p)
  unfolding first_carried carried
  same-carried u t h n e (refused v) (refused w) (inl l) k = inl (record { answer = ap deny l; tables = h })
  same-carried u t h n e (refused v) (refused w) (inr l) k = inr (rw l tells)
  same-carried u t h n e (refused v) (ok b) l k = absurd l
  same-carried u t h n e (ok a) (refused w) l k = inr (rw l tells)
  same-carried u t h n e (ok a) (ok b) l k = inl (record { answer = l.answer; tables = same-rows-put u t h.fronts e a.rows b.rows l.rows n k.0 k.1 })

  same-wrap : (u : FirstTables) (t : Tables) → Carries u t → EarlyTables u → (first_broken u ≡ false → On (first_view u)) → Unless told (first_wrap deny f u) (wrap deny g t)
  unfolding first_wrap wrap
  same-wrap u t h x on = either (Unless told) _ _ _ _ _ _ (same-broken u t h x) (λ _. inl (same_left _ u t h))
      (λ b.
      let s = same_store u t h.fronts x b in
      let w = broken-false t (sym (same-broken u t h x) ∙ b) in
      same-carried u t h w.0 s.eight (f (first_view u)) (g (view t)) (alike (first_view u) (view t) s.rows (early-rows u t x s.rows) (on b)) (keeps (view t) w.1 w.2))

-- a step and a call that are refused for it, and a run that ends in that
abbrev pub ToldStep : Answer → Type 0
ToldStep a = number_of_step a ≡ word_share

abbrev pub ToldCall : Reply → Type 0
ToldCall a = number_of a ≡ word_share

abbrev pub ToldRun : Reply → Type 0
ToldRun a = ends_in a ≡ word_share

pub same-step-tables : (u : FirstTables) (t : Tables) → Carries u t → EarlyTables u → Unless ToldStep (first_step_tables u) (step_tables t)
unfolding first_step_tables step_tables number_of_step number
same-step-tables u t h x = same-wrap Refused ToldStep refl first_step_rows step_rows (λ _. Unit {0}) (λ r q s e _. rw s.rest (same-step-rows r.objects q s.objects e)) step-whole u t h x (λ _. tt)

-- an answer other than 8
abbrev pub Unhidden : FirstReply → Type 0
Unhidden a = number_of a ≡ word_hidden → ⊥

answers-hidden : (c : FirstRowCall) (u : FirstTables) → first_broken u ≡ false → FirstHidden c (first_view u) → number_of (first_wrap Denied (first_on_row_call c) u).answer ≡ word_hidden
unfolding first_wrap first_carried number_of number
answers-hidden c u b e = rw (b, first_wrap) (rw (e, first_carried) refl)

pub same-rows-call : (c : FirstRowCall) → BringsNone c → (u : FirstTables) (t : Tables) → Carries u t → EarlyTables u → Unhidden (first_wrap Denied (first_on_row_call c) u).answer
    → Unless ToldCall (first_wrap Denied (first_on_row_call c) u) (wrap Denied (on_row_call (today_row c)) t)
unfolding number_of number
same-rows-call c b u t h x n =
    same-wrap Denied ToldCall refl (first_on_row_call c) (on_row_call (today_row c)) (λ r. FirstHidden c r → ⊥)
    (λ r q s e m. rw s.rest (same-row-call r.objects q s.objects e c b (rw s.rest at m))) (λ r w. rows_whole r w (today_row c)) u t h x (λ k e. n (answers-hidden c u k e))

-- A step leaves the classes and their files

pub count-after : (xs c : List ℕ) (j : ℕ) → length xs ≡ first_counts_length → length c ≡ first_counts_length → j < first_counts_length → get_or (write_rows set xs 0 c) j 0 ≡ get_or xs j 0
count-after xs c j a b l =
    let z : 0 + j ≡ j = omega arith in
    sym (rw z at (rows-get_d (λ i. get_or (write_rows set xs 0 c) i 0) (length xs) 0 j 0 (omega (arith, a))))
    ∙ ap (λ (y : List ℕ). get_or y j 0) (rows_back cell-rows xs c (omega (arith, a, b)))

module _ (u : FirstTables) (r : FirstRows) (eight : length u.counts ≡ first_counts_length) (ks : r.classes ≡ class_rows_of u) (bs : r.kept ≡ kept_of u) where
  classes-after : class_rows_of (first_put r u) ≡ class_rows_of u
  unfolding first_put first_counts_of
  classes-after =
      let cells : write_rows put_class_row r.classes 0 u.classes ≡ u.classes = ap (λ (z : List ClassRow). write_rows put_class_row z 0 u.classes) ks ∙ (classes-fill u).cells in
      let many : get_or (write_rows set (first_counts_of r) 0 u.counts) count_classes 0 ≡ get_or u.counts count_classes 0
      = count-after (first_counts_of r) u.counts count_classes refl eight (omega arith) ∙ (ap length ks ∙ (classes-fill u).count) in
      λ i. rows (class_row_at (cells i)) (many i) 0

  kept-after : kept_of (first_put r u) ≡ kept_of u
  unfolding first_put first_counts_of
  kept-after =
      let cells : write_rows set r.kept 0 u.kept ≡ u.kept = ap (λ (z : List ℕ). write_rows set z 0 u.kept) bs ∙ (kept-fill u).cells in
      let many : get_or (write_rows set (first_counts_of r) 0 u.counts) count_kept 0 ≡ get_or u.counts count_kept 0
      = count-after (first_counts_of r) u.counts count_kept refl eight (omega arith) ∙ (ap length bs ∙ (kept-fill u).count) in
      λ i. rows (λ j. get_or (cells i) j 0) (many i) 0

  pub early-after : EarlyTables u → EarlyTables (first_put r u)
  early-after x = subst₂ (λ y z. Early y z) (sym kept-after) (sym classes-after) x

abbrev pub SameFiles : {A : Type 0} → FirstRows → FirstGiven A → Type 0
SameFiles r g = (g.rows.classes ≡ r.classes) × (g.rows.kept ≡ r.kept)

step-files : (r : FirstRows) → Ok (first_step_rows r) (SameFiles r)
unfolding first_step_rows
step-files r = go r.quote r.report
  where
    task : (k : ℕ) (f : Frame) (fs : List Frame) → Ok (first_step_task k (first_world_of r) f fs r) (SameFiles r)
    task k f fs = unfold first_step_task in then (SameFiles r) _ _ (λ _ _. (refl, refl))

    go : (fs gs : List Frame) → Ok (first_step_on fs gs (first_world_of r) r) (SameFiles r)
    go (f ∷ fs) gs = unfold first_step_on in task 0 f fs
    go [] (f ∷ fs) = unfold first_step_on in task 1 f fs
    go [] [] = unfold first_step_on in (refl, refl)

pub step-early : (u : FirstTables) (t : Tables) → Carries u t → EarlyTables u → EarlyTables (first_step_tables u).tables
unfolding first_step_tables first_wrap first_view first_view_over
step-early u t h x = go (first_broken u) refl
  where
    put : (o : Result (FirstGiven Answer)) → Ok o (SameFiles (first_view u)) → length u.counts ≡ first_counts_length → EarlyTables (first_carried Refused u o).tables
    put (refused w) f e = unfold first_carried in x
    put (ok g) f e = unfold first_carried in early-after u g.rows e f.0 f.1 x

    go : (b : Bool) → first_broken u ≡ b → EarlyTables (elim b as (λ _. FirstDone Answer) [ true ↦ done (Refused (Word word_broken)) u | false ↦ first_carried Refused u (first_step_rows (first_view u)) ]).tables
    go true e = x
    go false e = put (first_step_rows (first_view u)) (step-files (first_view u)) (same_store u t h.fronts x e).eight

-- A run: as many steps

same-on : (n k : ℕ) (a b : Answer) → a ≡ b → (u : FirstTables) (t : Tables) → Carries u t
    → ((c : Answer) → Unless ToldRun (run_from first_step_tables n (suc k) c u) (run_from step_tables n (suc k) c t))
    → Unless ToldRun (go_on (run_from first_step_tables n) k a u) (go_on (run_from step_tables n) k b t)
same-on n k a b e u t h more = rw e (go b)
  where
    go : (b : Answer) → Unless ToldRun (go_on (run_from first_step_tables n) k b u) (go_on (run_from step_tables n) k b t)
    go Idle = inl (same_left _ u t h)
    go (Ran j) = more (Ran j)
    go (Finished j m) = inl (same_left _ u t h)
    go (Refused w) = inl (same_left _ u t h)

-- a run ends with a step that is refused so
told-on : (go : ℕ → Answer → Tables → Done Reply) (k : ℕ) (b : Answer) (t : Tables) → ToldStep b → ToldRun (go_on go k b t).answer
unfolding number_of_step ends_in
told-on go k Idle t h = absurd (omega arith)
told-on go k (Ran j) t h = absurd (omega arith)
told-on go k (Finished j m) t h = absurd (omega arith)
told-on go k (Refused w) t h = h

same-run-from : (n k : ℕ) (a : Answer) (u : FirstTables) (t : Tables) → Carries u t → EarlyTables u → Unless ToldRun (run_from first_step_tables n k a u) (run_from step_tables n k a t)
unfolding run_from
same-run-from zero k a u t h x = inl (same_left _ u t h)
same-run-from (suc n) k a u t h x = elim (same-step-tables u t h x) [
  | inl d ↦ same-on n k _ _ d.answer _ _ d.tables (λ c. same-run-from n (suc k) c _ _ d.tables (step-early u t h x))
  | inr s ↦ inr (told-on (run_from step_tables n) k (step_tables t).answer (step_tables t).tables s)
]

pub same-run : (n : ℕ) (u : FirstTables) (t : Tables) → Carries u t → EarlyTables u → Unless ToldRun (first_run n u) (run n t)
unfolding first_run run
same-run n u t h x = either (Unless ToldRun) _ _ _ _ _ _ (same-broken u t h x) (λ _. inl (same_left _ u t h))
    (λ _. either (Unless ToldRun) (leb 1 n && leb n run_limit) _ _ _ _ _ refl (λ _. same-run-from n 0 Idle u t h x) (λ _. inl (same_left (Denied (Word word_unknown)) u t h)))
