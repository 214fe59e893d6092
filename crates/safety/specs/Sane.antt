-- Sane tables: not broken, with every value in its place, and so after each load that can be taken back is. Every call keeps them so and isn't stuck.
use Rattle.std.specs.Prelude.{◌≡◌, refl, Bool, true, false, ◌&&◌, ◌⊎◌, ℕ, zero, suc, ◌≤◌, ◌<◌, leb}
use Rattle.std.proofs.Common.{sym, ap, ◌∙◌, subst, arith, ltb-true}
use Rattle.std.proofs.lemmas.Bool.{false≢true}
use Rattle.std.proofs.Math.Option.{Option, none, some, none-ne-some, some-injective}
use mathlib.Core.List.{List, [], ◌∷◌}
use Rattle.std.proofs.Math.ListN.{length, get_elem?}
use Rattle.definition.specs.declared.Refusal.{Refusal}
use Rattle.definition.specs.declared.Refusal.TheVariants.{Wanted, Word}
use Rattle.definition.specs.declared.Answer.{Answer}
use Rattle.definition.specs.declared.Answer.TheVariants.{Idle, Refused}
use Rattle.definition.specs.declared.Reply.{Reply}
use Rattle.definition.specs.declared.Reply.TheVariants.{Denied}
use Rattle.definition.specs.Answers.{number, number_of, ends_in, number_of_step, Result, refused, ok, ◌>>=◌}
use Rattle.definition.specs.Constraints.{World}
use Rattle.definition.specs.File.{class_of}
use Rattle.definition.specs.Machine.{Exists, Frame, Progress}
use Rattle.definition.specs.Tables.{Tables, shaped, Level, Rows, world_of, view, put, frames_in, with_frames}
use Rattle.definition.specs.Broken.{broken}
use Rattle.definition.specs.Calls.{Given, boot_rows, progressed, define_rows, record_rows, start_rows, drop_rows, sweep_rows, taken_back, answer_of, step_task, step_on, step_rows, Done, done, wrap, boot, step_tables, run_from, run, Call, call_boot, call_step, call_run, perform, perform_all, RowCall, row_define, row_record, row_start, row_drop, row_sweep, row_try, row_take_back, Load, load_define, load_record, load_rows, try_rows, on_row_call, call_rows}
use Rattle.definition.specs.Misplaced.{misplaced}
use Rattle.definition.specs.Safety.{Safe}
use Rattle.laws.specs.Results.{NotStuck, Wp, not-word, ok-inj, wp-need, wp-take}
use Rattle.laws.specs.Refusals.{unmoved, try-either}
use Rattle.laws.specs.Runs.{runs-end}
use Rattle.laws.specs.Tasks.{of-task}
use Rattle.laws.specs.Wrapped.{wrapped, Ok, ok_at}
use Rattle.layout.specs.Tests.{All}
use Rattle.layout.specs.Whole.{Whole, Framed}
use Rattle.layout.specs.Traced.{Traced, Back, Traceless}
use Rattle.layout.specs.Unbroken.{true-whole, broken-false}
use Rattle.layout.specs.ReadBack.{Lengths, shaped-true, true-shaped, view-put, object-class}
use Rattle.unbroken.specs.Steps.{step-moves}
use Rattle.unbroken.specs.Calls.{world-recorded, world-defined, step-whole, rows_whole, boot-whole, boot-traced}
use Rattle.unbroken.specs.Unbroken.{Unhurt, Keeps}
use Rattle.unbroken.specs.Traces.{TraceBy, rows-trace, step-trace, back-kept, back-stepped}
use Rattle.unbroken.specs.WholeRows.{ready, start-moves, world-progressed}
use Rattle.safety.specs.Store.{Store, store_of, booted}
use Rattle.safety.specs.Valid.{Stack}
use Rattle.safety.specs.Later.{Kept}
use Rattle.safety.specs.Steps.{step_kept}
use Rattle.safety.specs.Safe.{Valid, Loaded, define-kept, record-kept, start-kept, valid-world, valid-task, valid-booted}
use Rattle.safety.specs.Swept.{valid-swept}
use Rattle.safety.specs.Misplaced.{valid-placed}
use Rattle.safety.specs.Words.{placed-words}

-- Answers that are not 'stuck', said by their number

not-fourteen : (w : Refusal) → NotStuck w → number w ≡ 14 → ⊥
unfolding number
not-fourteen (Wanted l n) h e = absurd (omega arith)
not-fourteen (Word n) h e = h (ap Word e)

abbrev pub FineStep : Answer → Type 0
FineStep a = number_of_step a ≡ 14 → ⊥

abbrev pub Fine : Reply → Type 0
Fine a = (number_of a ≡ 14 → ⊥) × (ends_in a ≡ 14 → ⊥)

zero-fine : ◌≡◌ {A = ℕ} 0 14 → ⊥
zero-fine e = omega arith

-- Every call on rows that are whole and valid

wp-on : {A B : Type 0} (P : A → Type 0) (Q : B → Type 0) (o : Result A) (f : A → Result B) → Wp o P → ((a : A) → o ≡ ok a → P a → Wp (f a) Q) → Wp (o >>= f) Q
unfolding ◌>>=◌
wp-on P Q (refused w) f h k = h
wp-on P Q (ok a) f h k = k a refl h

abbrev pub Good : Rows → Type 0
Good r = Valid (store_of r)

-- a store with other classes, cache and constraints
abbrev in-world : Store → World → Store
in-world s w = record { world = w; objects = s.objects; quote = s.quote; report = s.report }

-- what a taking back leaves was left by calls before the load that it undoes, so each turn leaves valid rows
abbrev pub GoodBack : Rows → Type 0
GoodBack r = Back Good r.trace r

good-traceless : Traceless Good
good-traceless r x v = v

module _ (r : Rows) (w : Whole r) (v : Good r) where
  abbrev S : Store
  S = store_of r

  abbrev Q : Given Reply → Type 0
  Q g = Good g.rows × Fine g.answer

  abbrev R : Given Answer → Type 0
  R g = Good g.rows × FineStep g.answer

  define-good : (l : ℕ) (bs : List ℕ) → Wp (define_rows l bs r) Q
  unfolding define_rows number_of ends_in
  define-good l bs = wp-need Q _ _ _ (not-word 3 (omega arith)) (λ a. wp-take Q _ _ _ (not-word 2 (omega arith)) (λ f rf.
      wp-on (Loaded S.world) Q _ _ (define-kept _ (class_of l f) S.world v.linked) (λ x e h.
      (subst (λ (z : World). Valid (in-world S z)) (sym (world-defined r w l bs f x (ltb-true l 16 a) rf e)) (valid-world S (ok x) v h), (zero-fine, zero-fine)))))

  record-good : (l n c : ℕ) → Wp (record_rows l n c r) Q
  unfolding record_rows number_of ends_in
  record-good l n c = wp-on (Loaded S.world) Q _ _ (record-kept l n c S.world v.linked) (λ x e h.
      (subst (λ (z : World). Valid (in-world S z)) (sym (world-recorded r w l n c x e)) (valid-world S (ok x) v h), (zero-fine, zero-fine)))

  progress-good : (k : ℕ) (o : Progress) → world_of (progressed k r o) ≡ o.world → Kept S.world S.objects o → Good (progressed k r o)
  progress-good k o q h = subst (λ (z : World). Valid (in-world (store_of (progressed k r o)) z)) (sym q) (valid-task k S (ok o) v h)

  start-good : (k l n m x : ℕ) → Wp (start_rows k l n m x r) Q
  unfolding start_rows number_of ends_in
  start-good k l n m x = wp-need Q _ _ _ (not-word 3 (omega arith)) (λ a.
      wp-on (Kept S.world S.objects) Q _ _ (start-kept k l n m x S.world S.objects (frames_in k r) v.linked v.heap) (λ o e h.
      (progress-good k o (world-progressed r w k o (ok_at _ _ (start-moves r w k l n m x (frames_in k r) (ltb-true k 2 a)) o e)) h, (zero-fine, zero-fine))))

  fine-answer : (k : ℕ) (o : Option ℕ) → FineStep (answer_of k o)
  unfolding answer_of number_of_step
  fine-answer k none = zero-fine
  fine-answer k (some n) = zero-fine

  task-good : (k : ℕ) → k < 2 → (f : Frame) (fs : List Frame) → Stack S.world S.objects (f ∷ fs) → All (Framed (length r.classes) (Exists r.objects)) (f ∷ fs) → length (f ∷ fs) ≤ 32 → Wp (step_task k (world_of r) f fs r) R
  unfolding step_task
  task-good k two f fs x a c = wp-on (Kept S.world S.objects) R _ _ (step_kept k S.world S.objects f fs v.linked v.heap x) (λ o e h.
      (progress-good k o (world-progressed r w k o (ok_at _ _ (step-moves S.world (length r.classes) r.objects (ready r w) k two f fs a c) o e)) h, fine-answer k o.result))

  step-good : Wp (step_rows r) R
  unfolding step_rows
  step-good = go r.quote r.report v.quote v.report w.quote w.report w.limits.quote w.limits.report
    where
      go : (q p : List Frame) → Stack S.world S.objects q → Stack S.world S.objects p → All (Framed (length r.classes) (Exists r.objects)) q → All (Framed (length r.classes) (Exists r.objects)) p
          → length q ≤ 32 → length p ≤ 32 → Wp (step_on q p (world_of r) r) R
      go (f ∷ fs) p x y a b c d = unfold step_on in task-good 0 (omega arith) f fs x a c
      go [] (f ∷ fs) x y a b c d = unfold step_on in task-good 1 (omega arith) f fs y b d
      go [] [] x y a b c d = unfold step_on number_of_step in (v, zero-fine)

  dropped-good : (k : ℕ) → Good (with_frames k [] r)
  dropped-good k = record {
    linked = v.linked;
    heap = v.heap;
    quote = of-task (Stack S.world S.objects) k {q = []} tt v.quote;
    report = of-task (Stack S.world S.objects) k {p = []} v.report tt;
  }

  drop-good : (k : ℕ) → Wp (drop_rows k r) Q
  unfolding drop_rows number_of ends_in
  drop-good k = wp-need Q _ _ _ (not-word 3 (omega arith)) (λ _. (dropped-good k, (zero-fine, zero-fine)))

  sweep-good : Wp (sweep_rows r) Q
  unfolding sweep_rows number_of ends_in
  sweep-good = (valid-swept S v, (zero-fine, zero-fine))

  load-good : (c : Load) → Wp (load_rows c r) Q
  load-good (load_define l bs) = define-good l bs
  load-good (load_record l n c) = record-good l n c

  -- a try answers as the load, or 16, and leaves the rows as they are
  try-good : (c : Load) (n : ℕ) → Wp (try_rows c n r) Q
  try-good c n = try-either (λ o. Wp o Q) c n r (not-word 16 (omega arith)) (go (load_rows c r) (load-good c))
    where
      go : (o : Result (Given Reply)) → Wp o Q → Wp (unmoved r o) Q
      go (refused x) h = h
      go (ok g) h = (v, h.1)

  back-good : (ls : List Level) → Back Good ls r → Wp (taken_back ls r) Q
  unfolding taken_back number_of ends_in
  back-good [] b = not-word 19 (omega arith)
  back-good (l ∷ ls) b = (b.0, (zero-fine, zero-fine))

  rows-good : (c : RowCall) → GoodBack r → Wp (on_row_call c r) Q
  rows-good (row_define l bs) b = define-good l bs
  rows-good (row_record l n c) b = record-good l n c
  rows-good (row_start k l n m x) b = start-good k l n m x
  rows-good (row_drop k) b = drop-good k
  rows-good row_sweep b = sweep-good
  rows-good (row_try c n) b = try-good c n
  rows-good row_take_back b = back-good r.trace b

boot-good : Good boot_rows
boot-good = subst Valid (sym same) valid-booted
  where
    same : store_of boot_rows ≡ booted
    same = λ i. record {
      world = record { base = record { classes = object-class [] (record { loader = 0; start = 0; size = 0 }) (record { loader = refl; start = refl; size = refl }) i ∷ []; cache = booted.world.base.cache }; ties = []; subtypes = [] };
      objects = [];
      quote = [];
      report = [];
    }

-- Tables that come from a boot

pub record Sane (t : Tables) : Type 0 where
  pub unbroken : broken t ≡ false
  pub valid : Good (view t)
  pub back : GoodBack (view t)

put-sane : (r : Rows) (t : Tables) → Lengths t → Whole r → Traced r → Good r → GoodBack r → Sane (put r t)
put-sane r t l w b v k = record { unbroken = true-whole r t l w b; valid = subst Good (sym (view-put r t l w)) v; back = subst GoodBack (sym (view-put r t l w)) k }

wp-at : {A : Type 0} (Q : A → Type 0) (o : Result A) → Wp o Q → (a : A) → o ≡ ok a → Q a
wp-at Q (refused w) h a e = absurd (let z : ◌≡◌ {A = ℕ} 0 1 = cc in omega arith)
wp-at Q (ok b) h a e = rw (ok-inj e) at h

wp-refused : {A : Type 0} (Q : A → Type 0) (o : Result A) → Wp o Q → (w : Refusal) → o ≡ refused w → NotStuck w
wp-refused Q (refused x) h w e = let z : x ≡ w = cc in rw z at h
wp-refused Q (ok b) h w e = absurd (let z : ◌≡◌ {A = ℕ} 0 1 = cc in omega arith)

wrap-sane : {A : Type 0} (deny : Refusal → A) (F : A → Type 0) (f : Rows → Result (Given A)) (t : Tables) → Sane t → ((w : Refusal) → NotStuck w → F (deny w))
    → Keeps f → ((r : Rows) → Whole r → Good r → GoodBack r → Wp (f r) (λ g. Good g.rows × F g.answer))
    → ((r : Rows) → Whole r → Good r → GoodBack r → Ok (f r) (λ g. GoodBack g.rows)) → F (wrap deny f t).answer × Sane (wrap deny f t).tables
wrap-sane deny F f t s n k j m =
    let u = broken-false t s.unbroken in
    let h = j (view t) u.1 s.valid s.back in
    wrapped deny f t (λ a z. F a × Sane z) (λ e. absurd (false≢true (sym s.unbroken ∙ e)))
    (λ w e. (n w (wp-refused (λ g. Good g.rows × F g.answer) _ h w e), s))
    (λ _ g e.
    let x = wp-at (λ g. Good g.rows × F g.answer) _ h g e in
    let y = ok_at Unhurt _ (k (view t) u.1 u.2) g e in
    (x.1, put-sane g.rows t u.0 y.0 y.1 x.0 (ok_at (λ g. GoodBack g.rows) _ (m (view t) u.1 s.valid s.back) g e)))

ok-map : {A : Type 0} (P Q : A → Type 0) (o : Result A) → ((a : A) → P a → Q a) → Ok o P → Ok o Q
ok-map P Q (refused x) f p = tt
ok-map P Q (ok a) f p = f a p

rows_back : (c : RowCall) (r : Rows) → Whole r → Good r → GoodBack r → Ok (on_row_call c r) (λ g. GoodBack g.rows)
rows_back c r w v b =
    ok-map (λ (g : Given Reply). TraceBy c r g.rows) (λ g. GoodBack g.rows) (on_row_call c r) (λ g t. back-kept Good good-traceless c r g.rows t v b) (rows-trace r w.numbers c)

step_back : (r : Rows) → Whole r → Good r → GoodBack r → Ok (step_rows r) (λ g. GoodBack g.rows)
step_back r w v b =
    ok-map (λ (g : Given Answer). (g.rows ≡ r) ⊎ (g.rows.trace ≡ [])) (λ g. GoodBack g.rows) (step_rows r) (λ g t. back-stepped Good good-traceless r g.rows t b) (step-trace r)

refused-fine : (w : Refusal) → NotStuck w → FineStep (Refused w)
unfolding number_of_step
refused-fine w h = not-fourteen w h

denied-fine : (w : Refusal) → NotStuck w → Fine (Denied w)
unfolding number_of ends_in
denied-fine w h = (not-fourteen w h, zero-fine)

pub step-sane : (t : Tables) → Sane t → FineStep (step_tables t).answer × Sane (step_tables t).tables
unfolding step_tables
step-sane t s = wrap-sane Refused FineStep step_rows t s refused-fine step-whole (λ r w v _. step-good r w v) step_back

runs-sane : (n : ℕ) (t : Tables) → Sane t → Fine (run_from step_tables n 0 Idle t).answer × Sane (run_from step_tables n 0 Idle t).tables
unfolding number_of ends_in number_of_step
runs-sane n t s =
    let r = runs-end step_tables Sane (λ a z. FineStep a × Sane z) step-sane (λ z _ i _. (step-sane z i).1) n 0 Idle t s (zero-fine, s) in
    (rw r.answers (zero-fine, r.holds.0), r.holds.1)

run-sane : (n : ℕ) (t : Tables) → Sane t → Fine (run n t).answer × Sane (run n t).tables
unfolding run
run-sane n t s = rw (s.unbroken, run) (go (leb 1 n && leb n 65535))
  where
    D : Bool → Done Reply
    D b = elim b as (λ _. Done Reply) [ true ↦ run_from step_tables n 0 Idle t | false ↦ done (Denied (Word 3)) t ]

    go : (b : Bool) → Fine (D b).answer × Sane (D b).tables
    go true = runs-sane n t s
    go false = (denied-fine (Word 3) (not-word 3 (omega arith)), s)

pub boot-sane : (t : Tables) → shaped t ≡ true → Fine (boot t).answer × Sane (boot t).tables
unfolding boot
boot-sane t h = rw (h, boot) ((unfold number_of ends_in in (zero-fine, zero-fine)), put-sane boot_rows t (shaped-true t h) boot-whole boot-traced boot-good tt)

pub perform-sane : (c : Call) (t : Tables) → Sane t → Fine (perform c t).answer × Sane (perform c t).tables
unfolding perform
perform-sane call_boot t s = boot-sane t (true-shaped t (broken-false t s.unbroken).0)
perform-sane (call_rows c) t s = wrap-sane Denied Fine (on_row_call c) t s denied-fine (λ r w. rows_whole r w c) (λ r w v b. rows-good r w v c b) (rows_back c)
perform-sane call_step t s = let d = step-sane t s in unfold number_of ends_in in ((d.0, zero-fine), d.1)
perform-sane (call_run n) t s = run-sane n t s

all-sane : (cs : List Call) (t : Tables) → Sane t → ((i : ℕ) (a : Reply) → get_elem? (perform_all cs t).answer i ≡ some a → Fine a) × Sane (perform_all cs t).tables
unfolding perform_all
all-sane [] t s = ((λ i a e. absurd (none-ne-some a e)), s)
all-sane (c ∷ cs) t s = let d = perform-sane c t s in let e = all-sane cs (perform c t).tables d.1 in (each d.0 e.0, e.1)
  where
    each : Fine (perform c t).answer → ((i : ℕ) (a : Reply) → get_elem? (perform_all cs (perform c t).tables).answer i ≡ some a → Fine a)
        → (i : ℕ) (a : Reply) → get_elem? ((perform c t).answer ∷ (perform_all cs (perform c t).tables).answer) i ≡ some a → Fine a
    each f g zero a q = subst Fine (some-injective _ a q) f
    each f g (suc i) a q = g i a q

pub safe-on : (t : Tables) → Sane t → (cs : List Call) → Safe (perform_all cs t)
unfolding misplaced
safe-on t h cs =
    let s = all-sane cs t h in
    let r = view (perform_all cs t).tables in
    let p = valid-placed r s.1.valid in
    record { placed = p; words = placed-words r p; unbroken = s.1.unbroken; not_stuck = s.0 }
