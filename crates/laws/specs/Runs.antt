-- A run is its steps: each of the first k ran, and then the budget was spent or the next step answered something else; the store is the one
-- after exactly those steps.
use Rattle.std.specs.Prelude.{◌≡◌, ◌⊎◌, Bool, ◌&&◌}
use Rattle.std.proofs.Math.Path.{refl, sym, ap}
use Rattle.std.proofs.Common.{◌∙◌, subst}
use Rattle.std.proofs.Math.Logic.{inl, inr}
use Prim.Native.Nat.{ℕ, zero, suc, ◌+◌, ◌<◌}
use native.Mathlib.Omega.{arith}
use Rattle.definition.specs.declared.Answer.{Answer}
use Rattle.definition.specs.declared.Answer.TheVariants.{Idle, Ran, Finished, Refused}
use Rattle.definition.specs.declared.Refusal.{Refusal}
use Rattle.definition.specs.declared.Refusal.TheVariants.{Word}
use Rattle.definition.specs.declared.Reply.{Reply}
use Rattle.definition.specs.declared.Reply.TheVariants.{RanFor, Denied}
use Rattle.definition.specs.Tables.{Tables}
use Rattle.std.proofs.Math.Bool.{true, false}
use Rattle.std.proofs.Math.Dec.{leb}
use Rattle.definition.specs.Broken.{broken}
use Rattle.definition.specs.Calls.{Done, done, step_tables, go_on, run_from, run, call_run, perform}

module _ (one : Tables → Done Answer) where
  -- the tables after k steps, and the answer of the last of them, `a` if there is none
  unfoldable pub after : ℕ → Tables → Tables
  after zero t = t
  after (suc k) t = after k (one t).tables

  unfoldable pub last_of : ℕ → Answer → Tables → Answer
  last_of zero a t = a
  last_of (suc k) a t = last_of k (one t).answer (one t).tables

  abbrev pub IsRan : Answer → Type 0
  IsRan Idle = ⊥
  IsRan (Ran k) = Unit {0}
  IsRan (Finished k n) = ⊥
  IsRan (Refused w) = ⊥

  -- of n steps from t, k ran, the last answer is a, and s is left
  pub record Run (n : ℕ) (a₀ : Answer) (t : Tables) (k : ℕ) (a : Answer) (s : Tables) : Type 0 where
    pub ran : (i : ℕ) → i < k → IsRan (one (after i t)).answer
    pub ends : ((k ≡ n) × (a ≡ last_of k a₀ t) × (s ≡ after k t)) ⊎ ((k < n) × (IsRan a → ⊥) × (a ≡ (one (after k t)).answer) × (s ≡ (one (after k t)).tables))

  pub record IsRun (n k₀ : ℕ) (a₀ : Answer) (t : Tables) : Type 0 where
    pub count : ℕ
    pub last : Answer
    pub left : Tables
    pub gives : run_from one n k₀ a₀ t ≡ done (RanFor (k₀ + count) last) left
    pub steps : Run n a₀ t count last left

  stopped : (n k₀ : ℕ) (a₀ a : Answer) (t s : Tables) → one t ≡ done a s → (IsRan a → ⊥) → go_on (run_from one n) k₀ a s ≡ done (RanFor k₀ a) s → run_from one (suc n) k₀ a₀ t ≡ go_on (run_from one n) k₀ a s → IsRun (suc n) k₀ a₀ t
  unfolding after
  stopped n k₀ a₀ a t s e other go r = record {
    count = 0;
    last = a;
    left = s;
    gives = r ∙ go ∙ (let z : k₀ ≡ k₀ + 0 = omega arith in ap (λ (k : ℕ). done (RanFor k a) s) z);
    steps = record { ran = λ i l. absurd (omega arith); ends = inr (omega arith, other, sym (ap (λ (d : Done Answer). d.answer) e), sym (ap (λ (d : Done Answer). d.tables) e)) };
  }

  went : (n k₀ j : ℕ) (a₀ : Answer) (t s : Tables) → one t ≡ done (Ran j) s → run_from one (suc n) k₀ a₀ t ≡ run_from one n (suc k₀) (Ran j) s → IsRun n (suc k₀) (Ran j) s → IsRun (suc n) k₀ a₀ t
  unfolding after last_of
  went n k₀ j a₀ t s e r d = record {
    count = suc d.count;
    last = d.last;
    left = d.left;
    gives = r ∙ d.gives ∙ (let z : suc k₀ + d.count ≡ k₀ + suc d.count = omega arith in ap (λ (k : ℕ). done (RanFor k d.last) d.left) z);
    steps = record { ran = ran'; ends = ends' d.steps.ends };
  }
    where
      at : (one t).tables ≡ s
      at = ap (λ (x : Done Answer). x.tables) e

      says : (one t).answer ≡ Ran j
      says = ap (λ (x : Done Answer). x.answer) e

      ran' : (i : ℕ) → i < suc d.count → IsRan (one (after i t)).answer
      ran' zero l = rw says tt
      ran' (suc i) l = rw at (d.steps.ran i (omega arith))

      ends' : ((d.count ≡ n) × (d.last ≡ last_of d.count (Ran j) s) × (d.left ≡ after d.count s)) ⊎ ((d.count < n) × (IsRan d.last → ⊥) × (d.last ≡ (one (after d.count s)).answer) × (d.left ≡ (one (after d.count s)).tables))
          → ((suc d.count ≡ suc n) × (d.last ≡ last_of (suc d.count) a₀ t) × (d.left ≡ after (suc d.count) t)) ⊎ ((suc d.count < suc n) × (IsRan d.last → ⊥) × (d.last ≡ (one (after (suc d.count) t)).answer) × (d.left ≡ (one (after (suc d.count) t)).tables))
      ends' (inl (p, q, r)) = inl (ap suc p, rw (says, at) q, rw at r)
      ends' (inr (p, q, r, x)) = inr (omega arith, q, rw at r, rw at x)

  pub run_is : (n k₀ : ℕ) (a₀ : Answer) (t : Tables) → IsRun n k₀ a₀ t
  unfolding run_from
  run_is zero k₀ a₀ t = record {
    count = 0;
    last = a₀;
    left = t;
    gives = (let z : k₀ ≡ k₀ + 0 = omega arith in ap (λ (k : ℕ). done (RanFor k a₀) t) z);
    steps = record { ran = λ i l. absurd (omega arith); ends = inl (refl, unfold last_of in refl, unfold after in refl) };
  }
  run_is (suc n) k₀ a₀ t = go (one t).answer refl (λ k a s. run_is n k a s)
    where
      go : (a : Answer) → (one t).answer ≡ a → ((k : ℕ) (a : Answer) (s : Tables) → IsRun n k a s) → IsRun (suc n) k₀ a₀ t
      go Idle e ih = stopped n k₀ a₀ Idle t (one t).tables (λ i. done (e i) (one t).tables) (λ h. h) refl (ap (λ (x : Answer). go_on (run_from one n) k₀ x (one t).tables) e)
      go (Ran j) e ih = went n k₀ j a₀ t (one t).tables (λ i. done (e i) (one t).tables) (ap (λ (x : Answer). go_on (run_from one n) k₀ x (one t).tables) e) (ih (suc k₀) (Ran j) (one t).tables)
      go (Finished j m) e ih = stopped n k₀ a₀ (Finished j m) t (one t).tables (λ i. done (e i) (one t).tables) (λ h. h) refl (ap (λ (x : Answer). go_on (run_from one n) k₀ x (one t).tables) e)
      go (Refused w) e ih = stopped n k₀ a₀ (Refused w) t (one t).tables (λ i. done (e i) (one t).tables) (λ h. h) refl (ap (λ (x : Answer). go_on (run_from one n) k₀ x (one t).tables) e)

-- What each step keeps, a run keeps: I holds before each step, J of each answer and the tables it leaves
module _ (one : Tables → Done Answer) (I : Tables → Type 0) (J : Answer → Tables → Type 0)
    (each : (t : Tables) → I t → J (one t).answer (one t).tables) (on : (t : Tables) (j : ℕ) → I t → (one t).answer ≡ Ran j → I (one t).tables) where
  pub record Ends (d : Done Reply) : Type 0 where
    pub count : ℕ
    pub last : Answer
    pub answers : d.answer ≡ RanFor count last
    pub holds : J last d.tables

  pub runs-end : (n k : ℕ) (a : Answer) (t : Tables) → I t → J a t → Ends (run_from one n k a t)
  unfolding run_from
  runs-end zero k a t i j = record { count = k; last = a; answers = refl; holds = j }
  runs-end (suc n) k a t i j = go (one t).answer refl (each t i) (λ k b h. runs-end n k b (one t).tables h)
    where
      go : (x : Answer) → (one t).answer ≡ x → J (one t).answer (one t).tables → ((k : ℕ) (b : Answer) → I (one t).tables → J b (one t).tables → Ends (run_from one n k b (one t).tables))
          → Ends (go_on (run_from one n) k x (one t).tables)
      go Idle e h ih = record { count = k; last = Idle; answers = refl; holds = rw e at h }
      go (Ran m) e h ih = ih (suc k) (Ran m) (on t m i e) (rw e at h)
      go (Finished m v) e h ih = record { count = k; last = Finished m v; answers = refl; holds = rw e at h }
      go (Refused w) e h ih = record { count = k; last = Refused w; answers = refl; holds = rw e at h }

-- on tables alone: what a step keeps, the call keeps
pub run-keeps : (P : Tables → Type 0) → ((t : Tables) → P t → P (step_tables t).tables) → (n : ℕ) (t : Tables) → P t → P (run n t).tables
unfolding run
run-keeps P keep n t h = go (broken t) (leb 1 n && leb n 65535)
  where
    go : (b c : Bool) → P (elim b as (λ _. Done Reply) [
      | true ↦ done (Denied (Word 1)) t
      | false ↦ elim c as (λ _. Done Reply) [ true ↦ run_from step_tables n 0 Idle t | false ↦ done (Denied (Word 3)) t ]
    ]).tables
    go true c = h
    go false true = (runs-end step_tables P (λ _. P) keep (λ t _ i _. keep t i) n 0 Idle t h h).holds
    go false false = h

-- what each step keeps unless S, the call keeps unless S at one of its steps
module _ (P S : Tables → Type 0) (each : (t : Tables) → P t → P (step_tables t).tables ⊎ S t) where
  keeps-from : (n k : ℕ) (a : Answer) (t : Tables) → P t → P (run_from step_tables n k a t).tables ⊎ ((i : ℕ) × (i < n) × S (after step_tables i t))
  unfolding run_from after
  keeps-from zero k a t h = inl h
  keeps-from (suc n) k a t h = elim (each t h) [
    | inl p ↦ go (step_tables t).answer p (λ j. keeps-from n (suc k) (Ran j) (step_tables t).tables p)
    | inr s ↦ inr (0, omega arith, s)
  ]
    where
      go : (x : Answer) → P (step_tables t).tables
          → ((j : ℕ) → P (run_from step_tables n (suc k) (Ran j) (step_tables t).tables).tables ⊎ ((i : ℕ) × (i < n) × S (after step_tables i (step_tables t).tables))) → P (go_on (run_from step_tables n) k x (step_tables t).tables).tables ⊎ ((i : ℕ) × (i < suc n) × S (after step_tables i t))
      go Idle p ih = inl p
      go (Ran j) p ih = elim (ih j) [ inl q ↦ inl q | inr r ↦ inr (suc r.0, omega (arith, r.1), r.2) ]
      go (Finished j m) p ih = inl p
      go (Refused w) p ih = inl p

  pub run-keeps-unless : (n : ℕ) (t : Tables) → P t → P (run n t).tables ⊎ ((i : ℕ) × (i < n) × S (after step_tables i t))
  unfolding run
  run-keeps-unless n t h = go (broken t) (leb 1 n && leb n 65535)
    where
      go : (b c : Bool) → P (elim b as (λ _. Done Reply) [
        | true ↦ done (Denied (Word 1)) t
        | false ↦ elim c as (λ _. Done Reply) [ true ↦ run_from step_tables n 0 Idle t | false ↦ done (Denied (Word 3)) t ]
      ]).tables ⊎ ((i : ℕ) × (i < n) × S (after step_tables i t))
      go true c = inl h
      go false true = keeps-from n 0 Idle t h
      go false false = inl h

-- The call: on a store that isn't broken, for n from 1 to 65,535, it answers and leaves what its steps do
pub run-steps : (n : ℕ) (t : Tables) → broken t ≡ false → leb 1 n && leb n 65535 ≡ true
    → (k : ℕ) × (a : Answer) × (s : Tables) × (perform (call_run n) t ≡ done (RanFor k a) s) × Run step_tables n Idle t k a s
unfolding perform run
run-steps n t h l = let r = run_is step_tables n 0 Idle t in (r.count, r.last, r.left, rw (h, run) (rw l (r.gives ∙ (let z : 0 + r.count ≡ r.count = omega arith in ap (λ (k : ℕ). done (RanFor k r.last) r.left) z))), r.steps)

-- A run that ends in a refused step: each step before that one ran, and it is refused of the tables after them, which the run leaves as that step does

pub record EndsRefused (t : Tables) (k : ℕ) (w : Refusal) (s : Tables) : Type 0 where
  pub ran : (i : ℕ) → i < k → IsRan step_tables (step_tables (after step_tables i t)).answer
  pub answers : (step_tables (after step_tables k t)).answer ≡ Refused w
  pub leaves : s ≡ (step_tables (after step_tables k t)).tables

-- the last of some steps that ran is no refusal
last-ran : (k : ℕ) (a : Answer) (t : Tables) (w : Refusal) → ((i : ℕ) → i < k → IsRan step_tables (step_tables (after step_tables i t)).answer)
    → last_of step_tables k a t ≡ Refused w → a ≡ Refused w
unfolding last_of after
last-ran zero a t w h e = e
last-ran (suc k) a t w h e =
    let q : (step_tables t).answer ≡ Refused w = last-ran k (step_tables t).answer (step_tables t).tables w (λ i l. h (suc i) (omega arith)) e in
    absurd (rw q at (h 0 (omega arith)))

pub run-ends-refused : (n : ℕ) (t : Tables) (k : ℕ) (w : Refusal) → (perform (call_run n) t).answer ≡ RanFor k (Refused w) → EndsRefused t k w (perform (call_run n) t).tables
unfolding perform run
run-ends-refused n t k w = go (broken t) (leb 1 n && leb n 65535)
  where
    D : Bool → Bool → Done Reply
    D b c = elim b as (λ _. Done Reply) [ true ↦ done (Denied (Word 1)) t | false ↦ elim c as (λ _. Done Reply) [ true ↦ run_from step_tables n 0 Idle t | false ↦ done (Denied (Word 3)) t ] ]

    denied : (v : Refusal) → Path Reply (Denied v) (RanFor k (Refused w)) → EndsRefused t k w t
    denied v e = let z : ◌≡◌ {A = ℕ} 0 1 = cc in absurd (omega arith)

    ended : IsRun step_tables n 0 Idle t → (run_from step_tables n 0 Idle t).answer ≡ RanFor k (Refused w) → EndsRefused t k w (run_from step_tables n 0 Idle t).tables
    ended r e =
        let z : RanFor (0 + r.count) r.last ≡ RanFor k (Refused w) = sym (ap (λ (d : Done Reply). d.answer) r.gives) ∙ e in
        let a : 0 + r.count ≡ k = cc in
        let c : r.count ≡ k = omega arith in
        let l : r.last ≡ Refused w = cc in
        subst (λ (j : ℕ). EndsRefused t j w (run_from step_tables n 0 Idle t).tables) c (at l r.steps.ends)
      where
        at : r.last ≡ Refused w
            → ((r.count ≡ n) × (r.last ≡ last_of step_tables r.count Idle t) × (r.left ≡ after step_tables r.count t))
            ⊎ ((r.count < n) × (IsRan step_tables r.last → ⊥) × (r.last ≡ (step_tables (after step_tables r.count t)).answer)
            × (r.left ≡ (step_tables (after step_tables r.count t)).tables))
            → EndsRefused t r.count w (run_from step_tables n 0 Idle t).tables
        at l (inl (p, q, s)) = let z : Path Answer Idle (Refused w) = last-ran r.count Idle t w r.steps.ran (sym q ∙ l) in let y : ◌≡◌ {A = ℕ} 0 1 = cc in absurd (omega arith)
        at l (inr (p, q, s, x)) = record { ran = r.steps.ran; answers = sym s ∙ l; leaves = ap (λ (d : Done Reply). d.tables) r.gives ∙ x }

    go : (b c : Bool) → (D b c).answer ≡ RanFor k (Refused w) → EndsRefused t k w (D b c).tables
    go true c e = denied (Word 1) e
    go false true e = ended (run_is step_tables n 0 Idle t) e
    go false false e = denied (Word 3) e

-- and if its first step is refused, that is its answer
pub run-refused : (n : ℕ) (t : Tables) (w : Refusal) → broken t ≡ false → leb 1 n && leb n 65535 ≡ true → step_tables t ≡ done (Refused w) t → perform (call_run n) t ≡ done (RanFor 0 (Refused w)) t
unfolding perform run run_from
run-refused zero t w h l e = cc
run-refused (suc n) t w h l e = rw (h, run) (rw l (ap (λ (d : Done Answer). go_on (run_from step_tables n) 0 d.answer d.tables) e))
