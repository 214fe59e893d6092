-- A step of tables that are not broken, by whose turn it is.
use Rattle.std.specs.Prelude.{◌≡◌, Bool, true, ◌≢◌, ℕ, zero, suc, ◌+◌, ◌-◌, length, get_or, set, eqb}
use Rattle.std.proofs.Math.Path.{refl, ap}
use Rattle.std.proofs.Common.{sym, subst, ◌∙◌, arith, length-append, get_or-set_same, get_or-set_other, eqb-true}
use Rattle.std.proofs.Math.Bool.{false}
use mathlib.Core.List.{List, [], ◌∷◌, ◌++◌}
use Rattle.std.proofs.lemmas.Bool.{eqb-false}
use Rattle.definition.specs.Numbers.{count_ties, tie_numbers_cell, loads_cell}
use Rattle.definition.specs.Lists.{stack, write_rows}
use Rattle.definition.specs.Classes.{Base}
use Rattle.definition.specs.Constraints.{World, Tie}
use Rattle.definition.specs.Instructions.{pick}
use Rattle.definition.specs.declared.Answer.{Answer}
use Rattle.definition.specs.declared.Answer.TheVariants.{Idle, Ran, Finished, Refused}
use Rattle.definition.specs.declared.Refusal.TheVariants.{Word}
use Rattle.definition.specs.Machine.{Frame}
use Rattle.definition.specs.Tables.{Tables, tables, Rows, tie_at, put_tie, world_of, frame_in, ties_of, numbers_of, frames_of, view_over, view, put_number}
use Rattle.definition.specs.Broken.{broken}
use Rattle.definition.specs.Calls.{numbers_from, given, Done, done, carried, wrap, step_task, step_on, step_rows, step_tables}
use Rattle.layout.specs.Places.{rows-length}
use Rattle.layout.specs.NumberedRows.{numbers-before}
use Rattle.layout.specs.View.{put_view, frames-none, frames-top}
use Rattle.layout.specs.Unbroken.{unbroken}
use Rattle.unbroken.specs.Unbroken.{step-unbroken}
use Rattle.groups.specs.Numbered.{regrouped}
use Rattle.groups.specs.Kept.{regrouped-kept}
use Rattle.resolution.specs.Quick.{quick_base, quick_of}
use Rattle.resolution.specs.Unbroken.{quick-base, quick-rows}
use Rattle.access.specs.Accesses.{world_in}
use Rattle.instructions.specs.declared.Plan.{Plan}
use Rattle.tasks.specs.Turns.{turn_of}
use Rattle.posting.specs.Postings.{Posting, to_post}
use Rattle.execution.specs.Carried.{grouped_on, closed_by, planned, Left, left-ties, left-planned}
use Rattle.execution.specs.Steps.{Chosen}

-- groups are made anew of the table i of ties where the ties us were posted
abbrev pub regrouped_by : List Tie → List ℕ → List ℕ → List ℕ
regrouped_by [] i x = x
regrouped_by (u ∷ us) i x = regrouped x i (get_or x count_ties 0)

regroups-not : (us : List Tie) (i x : List ℕ) → length us ≡ 0 → x ≡ regrouped_by us i x
regroups-not [] i x e = refl
regroups-not (u ∷ us) i x e = absurd (omega arith)

regroups-on : (us : List Tie) (i x : List ℕ) → (length us ≡ 0 → ⊥) → regrouped x i (get_or x count_ties 0) ≡ regrouped_by us i x
regroups-on [] i x e = absurd (e refl)
regroups-on (u ∷ us) i x e = refl

pub regrouped-not : (p : Posting) (i x : List ℕ) → length (to_post p) ≡ 0 → x ≡ regrouped_by (to_post p) i x
regrouped-not p i x e = regroups-not (to_post p) i x e

pub regrouped-on : (p : Posting) (i x : List ℕ) → (length (to_post p) ≡ 0 → ⊥) → regrouped x i (get_or x count_ties 0) ≡ regrouped_by (to_post p) i x
regrouped-on p i x e = regroups-on (to_post p) i x e

-- task k's step, with m frames below its top frame, where B gives the classes
unfoldable pub taken : Base → Tables → ℕ → ℕ → Done Answer
taken B t k m = carried Refused t (step_task k (world_in B t) (frame_in t.frames k m) (stack (frame_in t.frames k) m) (view_over B t))

-- a plan that was chosen is what the step does
planned-taken : (t : Tables) (k m b q : ℕ) (x : Posting) (p : Plan) → Chosen t.counts t.classes t.kept t.cache t.ties t.subtypes t.objects t.frames k m b x p q
    → planned (quick_of t) t k m q (to_post x) p ≡ taken (quick_of t) t k m
unfolding planned taken step_task view_over
planned-taken t k m b q x p h = rw h.says

-- Rows: nobody's turn, the quote's, the report's

module _ (qs rs : List Frame) (w : World) (r : Rows) where
  on_none : qs ≡ [] → rs ≡ [] → step_on qs rs w r ≡ given Idle r
  unfolding step_on
  on_none a b = rw (a, b)

  on-quote : (f : Frame) (fs : List Frame) → qs ≡ f ∷ fs → step_on qs rs w r ≡ step_task 0 w f fs r
  unfolding step_on
  on-quote f fs a = rw a

  on-report : (f : Frame) (fs : List Frame) → qs ≡ [] → rs ≡ f ∷ fs → step_on qs rs w r ≡ step_task 1 w f fs r
  unfolding step_on
  on-report f fs a b = rw (a, b)

-- Tables that are not broken

module _ (t : Tables) (h : broken t ≡ false) where
  unwrapped : step_tables t ≡ carried Refused t (step_rows (view t))
  unfolding step_tables wrap
  unwrapped = rw (h, wrap)

  pub same-world : world_of (view t) ≡ world_in (quick_of t) t
  unfolding view view_over
  same-world = rw (quick-base t h)

  step-idle : get_or t.counts (6 + turn_of t.counts) 0 ≡ 0 → step_tables t ≡ done Idle t
  unfolding turn_of pick
  step-idle e = unwrapped ∙ go (eqb (get_or t.counts 6 0) 0) refl e
    where
      nobody : frames_of t 0 ≡ [] → frames_of t 1 ≡ [] → carried Refused t (step_rows (view t)) ≡ done Idle t
      nobody a b =
          unfold step_rows view view_over carried in
          ap (carried Refused t) (on_none (frames_of t 0) (frames_of t 1) (world_of (view t)) (view t) a b) ∙ ap (done Idle) (put_view t (unbroken t h).groups)

      go : (u : Bool) → eqb (get_or t.counts 6 0) 0 ≡ u → get_or t.counts (6 + pick u 1 0) 0 ≡ 0 → carried Refused t (step_rows (view t)) ≡ done Idle t
      go true q z = nobody (frames-none t 0 (eqb-true (get_or t.counts 6 0) 0 q)) (frames-none t 1 z)
      go false q z = absurd (eqb-false (get_or t.counts 6 0) 0 q z)

  -- the step of the task whose turn it is
  step-taken : (m : ℕ) → get_or t.counts (6 + turn_of t.counts) 0 ≡ suc m → step_tables t ≡ taken (quick_of t) t (turn_of t.counts) m
  unfolding turn_of pick
  step-taken m e = unwrapped ∙ go (eqb (get_or t.counts 6 0) 0) refl e
    where
      task : (k : ℕ) → step_task k (world_of (view t)) (frame_in t.frames k m) (stack (frame_in t.frames k) m) (view t)
          ≡ step_task k (world_in (quick_of t) t) (frame_in t.frames k m) (stack (frame_in t.frames k) m) (view_over (quick_of t) t)
      task k = λ i. step_task k (same-world i) (frame_in t.frames k m) (stack (frame_in t.frames k) m) (sym (quick-rows t h) i)

      go : (u : Bool) → eqb (get_or t.counts 6 0) 0 ≡ u → get_or t.counts (6 + pick u 1 0) 0 ≡ suc m → carried Refused t (step_rows (view t)) ≡ taken (quick_of t) t (pick u 1 0) m
      go true q z =
          unfold step_rows view view_over taken in
          ap (carried Refused t)
          (on-report (frames_of t 0) (frames_of t 1) (world_of (view t)) (view t) (frame_in t.frames 1 m) (stack (frame_in t.frames 1) m)
          (frames-none t 0 (eqb-true (get_or t.counts 6 0) 0 q)) (frames-top t 1 m z)
          ∙ task 1)
      go false q z =
          unfold step_rows view view_over taken in
          ap (carried Refused t)
          (on-quote (frames_of t 0) (frames_of t 1) (world_of (view t)) (view t) (frame_in t.frames 0 m) (stack (frame_in t.frames 0) m) (frames-top t 0 m z) ∙ task 0)

-- k is the task whose turn it is, and n its number of frames

module _ (N L K E I S O F : List ℕ) (whole : broken (tables N L K E I S O F) ≡ false) (k n : ℕ) (turns : k ≡ turn_of N) (frames : n ≡ get_or N (6 + k) 0) where
  abbrev T : Tables
  T = tables N L K E I S O F

  pub turn-idle : n ≡ 0 → done Idle T ≡ step_tables T
  turn-idle e = sym (step-idle T whole (rw (← turns) (sym frames ∙ e)))

  pub turn-count : n ≢ 0 → get_or N (6 + k) 0 ≡ suc (n - 1)
  turn-count e = sym frames ∙ one n e
    where
      one : (n : ℕ) → n ≢ 0 → n ≡ suc (n - 1)
      one zero e = absurd (e refl)
      one (suc n) e = omega arith

  -- the number of ties that stands in the counts D, numbered and closed
  closed-ties : (a : Answer) (x : List ℕ) → get_or (closed_by a x) count_ties 0 ≡ get_or x count_ties 0
  closed-ties Idle x = refl
  closed-ties (Ran k) x = get_or-set_other x loads_cell count_ties 0 0 (λ e. omega arith)
  closed-ties (Finished k n) x = get_or-set_other x loads_cell count_ties 0 0 (λ e. omega arith)
  closed-ties (Refused w) x = refl

  abbrev left : List Tie → Answer → List ℕ → List ℕ
  left us a D = closed_by a (write_rows (put_number tie_numbers_cell) (numbers_from (get_or N 3 0 + get_or N 4 0) (length us)) (get_or N 3 0) D)

  -- groups made anew are those that the definition puts, since the tables that it leaves are not broken
  groups-kept : (us : List Tie) (J x P G : List ℕ) (a : Answer) → get_or x count_ties 0 ≡ get_or N 3 0 + length us → done a (tables (grouped_on (quick_base N L K E) T us x) L K E J S P G) ≡ step_tables T
      → regrouped_by us J x ≡ grouped_on (quick_base N L K E) T us x
  groups-kept [] J x P G a n e = refl
  groups-kept (u ∷ us) J x P G a n e =
      regrouped-kept (ties_of T ++ (u ∷ us)) ((numbers_of T).ties ++ numbers_from (get_or N 3 0 + get_or N 4 0) (length (u ∷ us))) x L K E J S P G
      (subst (λ (d : Done Answer). broken d.tables ≡ false) (sym e) (step-unbroken T whole))
      (length-append (ties_of T) (u ∷ us) ∙ (ap (λ (k : ℕ). k + length (u ∷ us)) (rows-length (tie_at I) (get_or N 3 0) 0) ∙ sym n))

  -- ties posted, which gives the counts C and the ties J, then the plan carried out, then the ties numbered, the loads closed, and groups made anew
  pub turn-carried : n ≢ 0 → (b q : ℕ) (x : Posting) (p : Plan) → Chosen N L K E I S O F k (n - 1) b x p q
      → (C J : List ℕ) → C ≡ set N 3 (get_or N 3 0 + length (to_post x)) → J ≡ write_rows put_tie (to_post x) (get_or N 3 0) I
      → (a : Answer) (D P G : List ℕ) → Left (quick_base C L K E) C O F k (n - 1) b q p a D P G → (u v : ℕ) → u ≡ get_or N 3 0 → v ≡ get_or N 4 0
      → (M : List ℕ) → M ≡ regrouped_by (to_post x) J (closed_by a (write_rows (put_number tie_numbers_cell) (numbers_from (u + v) (length (to_post x))) u D)) → done a (tables M L K E J S P G) ≡ step_tables T
  turn-carried e b q x p h C J c j a D P G l u v y z M w =
      let us : List Tie = to_post x in
      let steps : done a (tables (grouped_on (quick_base N L K E) T us (left us a D)) L K E J S P G) ≡ step_tables T =
      left-planned N L K E I S O F k (n - 1) b us p h.ready C c J j q a D P G l
      ∙ (planned-taken T k (n - 1) b q x p h ∙ (rw turns (sym (step-taken T whole (n - 1) (rw turns at (turn-count e)))))) in
      let tied : get_or (left us a D) count_ties 0 ≡ get_or N 3 0 + length us =
      closed-ties a (write_rows (put_number tie_numbers_cell) (numbers_from (get_or N 3 0 + get_or N 4 0) (length us)) (get_or N 3 0) D)
      ∙ (numbers-before tie_numbers_cell (numbers_from (get_or N 3 0 + get_or N 4 0) (length us)) (get_or N 3 0) D count_ties (omega arith)
      ∙ (left-ties N L K E I S O F k (n - 1) b us p h.ready C c q a D P G l
      ∙ (ap (λ (d : List ℕ). get_or d count_ties 0) c ∙ get_or-set_same N count_ties (get_or N 3 0 + length us) 0 (omega (arith, (unbroken T whole).lengths.counts))))) in
      rw (w, y, z) (ap (λ (d : List ℕ). done a (tables d L K E J S P G)) (groups-kept us J (left us a D) P G a tied steps) ∙ steps)

  -- the same, where a top frame says its task and its row; R are the counts before groups are made anew
  pub top-carried : n ≢ 0 → (h i : ℕ) → h ≡ k → i ≡ n - 1 → (b q : ℕ) (x : Posting) (p : Plan) → Chosen N L K E I S O F h i b x p q
      → (C J : List ℕ) → C ≡ set N 3 (get_or N 3 0 + length (to_post x)) → J ≡ write_rows put_tie (to_post x) (get_or N 3 0) I
      → (a : Answer) (D P G : List ℕ) → Left (quick_base C L K E) C O F h i b q p a D P G → (u v : ℕ) → u ≡ get_or N 3 0 → v ≡ get_or N 4 0
      → (R M : List ℕ) → R ≡ closed_by a (write_rows (put_number tie_numbers_cell) (numbers_from (u + v) (length (to_post x))) u D) → M ≡ regrouped_by (to_post x) J R → done a (tables M L K E J S P G) ≡ step_tables T
  top-carried e h i y z b q x p g C J c j a D P G l u v f r R M w m =
      turn-carried e b q x p (rw (y, z) at g) C J c j a D P G (rw (y, z) at l) u v f r M (m ∙ ap (λ (d : List ℕ). regrouped_by (to_post x) J d) w)

pub step-broken : (t : Tables) → broken t ≡ true → done (Refused (Word 1)) t ≡ step_tables t
unfolding step_tables wrap
step-broken t h = rw (h, wrap)
