-- Calls on tables are the calls on rows, whatever stands in the unused cells; so a list of calls from a boot can be computed on rows.
use Rattle.std.specs.Prelude.{◌≡◌, Bool, true, false, ◌&&◌, List, [], ◌∷◌, ℕ, zero, suc, leb}
use Rattle.std.proofs.Math.Path.{refl, subst}
use Rattle.std.proofs.Common.{sym, ap, ◌∙◌, arith}
use Rattle.std.proofs.lemmas.Bool.{false≢true}
use Rattle.definition.specs.declared.Refusal.{Refusal}
use Rattle.definition.specs.declared.Refusal.TheVariants.{Word}
use Rattle.definition.specs.declared.Answer.{Answer}
use Rattle.definition.specs.declared.Answer.TheVariants.{Idle, Ran, Finished, Refused}
use Rattle.definition.specs.declared.Reply.{Reply}
use Rattle.definition.specs.declared.Reply.TheVariants.{Accepted, Stepped, Denied}
use Rattle.definition.specs.Answers.{Result}
use Rattle.definition.specs.Tables.{Tables, shaped, Rows, view, put}
use Rattle.definition.specs.Broken.{broken}
use Rattle.definition.specs.Calls.{Given, boot_rows, step_rows, Done, done, wrap, boot, step_tables, go_on, run_from, run, Call, call_boot, call_step, call_run, perform, perform_all, on_row_call, call_rows}
use Rattle.laws.specs.Wrapped.{wrapped, ok_at}
use Rattle.layout.specs.Whole.{Whole}
use Rattle.layout.specs.Traced.{Traced}
use Rattle.layout.specs.View.{put_view}
use Rattle.layout.specs.Unbroken.{unbroken, true-whole, broken-false}
use Rattle.layout.specs.ReadBack.{Lengths, shaped-true, true-shaped, view-put}
use Rattle.unbroken.specs.Calls.{step-whole, rows_whole, boot-whole, boot-traced}
use Rattle.unbroken.specs.Unbroken.{Unhurt, Keeps}
use Rattle.definition.specs.Computing.OnRows.{given_rows, settle, on_rows, go_on_rows, run_rows, perform_rows, perform_all_rows}

-- Tables that show rows

pub record Shows (t : Tables) (r : Rows) : Type 0 where
  pub unbroken : broken t ≡ false
  pub rows : view t ≡ r

abbrev pub Same : {A : Type 0} → A → Tables → Given A → Type 0
Same a t g = (a ≡ g.answer) × Shows t g.rows

module _ {A : Type 0} (deny : Refusal → A) (f : Rows → Result (Given A)) (k : Keeps f) where
  same-wrap : (t : Tables) (r : Rows) → Shows t r → Same (wrap deny f t).answer (wrap deny f t).tables (on_rows deny f r)
  unfolding on_rows settle
  same-wrap t r s = subst (λ (x : Rows). Same (wrap deny f t).answer (wrap deny f t).tables (on_rows deny f x)) s.rows
      (wrapped deny f t (λ a z. Same a z (on_rows deny f (view t))) (λ e. absurd (false≢true (sym s.unbroken ∙ e)))
      (λ w e. rw (e, on_rows) (refl, record { unbroken = s.unbroken; rows = refl }))
      (λ _ g e. let h = ok_at Unhurt _ (k (view t) u.1 u.2) g e in rw (e, on_rows) (refl, record { unbroken = true-whole g.rows t u.0 h.0 h.1; rows = view-put g.rows t u.0 h.0 })))
    where
      u : Lengths t × Whole (view t) × Traced (view t)
      u = broken-false t s.unbroken

pub same-boot : (t : Tables) → shaped t ≡ true → Same (boot t).answer (boot t).tables (given_rows Accepted boot_rows)
unfolding boot
same-boot t h = rw (h, boot) (refl, record { unbroken = true-whole boot_rows t (shaped-true t h) boot-whole boot-traced; rows = view-put boot_rows t (shaped-true t h) boot-whole })

-- boot accepts only the published lengths
pub accepted-shaped : (t : Tables) → (boot t).answer ≡ Accepted → shaped t ≡ true
accepted-shaped t h = go (shaped t) refl
  where
    refuses : shaped t ≡ false → (boot t).answer ≡ Denied (Word 1)
    refuses e = unfold boot in rw (e, boot) refl

    go : (b : Bool) → shaped t ≡ b → shaped t ≡ true
    go true e = e
    go false e = absurd (let z : Path Reply (Denied (Word 1)) Accepted = sym (refuses e) ∙ h in let y : ◌≡◌ {A = ℕ} 0 1 = cc in omega arith)

same_step : (t : Tables) (r : Rows) → Shows t r → Same (step_tables t).answer (step_tables t).tables (on_rows Refused step_rows r)
unfolding step_tables
same_step t r s = same-wrap Refused step_rows step-whole t r s

same_runs : (n k : ℕ) (a : Answer) (t : Tables) (r : Rows) → Shows t r → Same (run_from step_tables n k a t).answer (run_from step_tables n k a t).tables (run_rows n k a r)
unfolding run_from run_rows
same_runs zero k a t r s = (refl, s)
same_runs (suc n) k a t r s =
    let d = same_step t r s in
    go (step_tables t).answer (on_rows Refused step_rows r).answer d.0 (step_tables t).tables (on_rows Refused step_rows r).rows d.1 (λ k a t r s. same_runs n k a t r s)
  where
    G : (x y : Answer) (z : Tables) (q : Rows) → Type 0
    G x y z q = Same (go_on (run_from step_tables n) k x z).answer (go_on (run_from step_tables n) k x z).tables (go_on_rows (run_rows n) k y q)

    go : (x y : Answer) → x ≡ y → (z : Tables) (q : Rows) → Shows z q
        → ((k : ℕ) (a : Answer) (t : Tables) (r : Rows) → Shows t r → Same (run_from step_tables n k a t).answer (run_from step_tables n k a t).tables (run_rows n k a r)) → G x y z q
    go x y e z q h ih = subst (λ (y : Answer). G x y z q) e (here x)
      where
        here : (x : Answer) → G x x z q
        here Idle = (refl, h)
        here (Ran j) = ih (suc k) (Ran j) z q h
        here (Finished j v) = (refl, h)
        here (Refused w) = (refl, h)

same-run : (n : ℕ) (t : Tables) (r : Rows) → Shows t r → Same (run n t).answer (run n t).tables (perform_rows (call_run n) r)
unfolding run perform_rows
same-run n t r s = rw (s.unbroken, run) (go (leb 1 n && leb n 65535))
  where
    go : (b : Bool) → Same (elim b as (λ _. Done Reply) [ true ↦ run_from step_tables n 0 Idle t | false ↦ done (Denied (Word 3)) t ]).answer
        (elim b as (λ _. Done Reply) [ true ↦ run_from step_tables n 0 Idle t | false ↦ done (Denied (Word 3)) t ]).tables
        (elim b as (λ _. Given Reply) [ true ↦ run_rows n 0 Idle r | false ↦ given_rows (Denied (Word 3)) r ])
    go true = same_runs n 0 Idle t r s
    go false = (refl, s)

pub same-perform : (c : Call) (t : Tables) (r : Rows) → Shows t r → Same (perform c t).answer (perform c t).tables (perform_rows c r)
unfolding perform perform_rows
same-perform call_boot t r s = same-boot t (true-shaped t (broken-false t s.unbroken).0)
same-perform (call_rows c) t r s = same-wrap Denied (on_row_call c) (λ r w. rows_whole r w c) t r s
same-perform call_step t r s = let d = same_step t r s in (ap Stepped d.0, d.1)
same-perform (call_run n) t r s = same-run n t r s

pub same-all : (cs : List Call) (t : Tables) (r : Rows) → Shows t r → Same (perform_all cs t).answer (perform_all cs t).tables (perform_all_rows cs r)
unfolding perform_all perform_all_rows
same-all [] t r s = (refl, s)
same-all (c ∷ cs) t r s =
    let d = same-perform c t r s in
    let e = same-all cs (perform c t).tables (perform_rows c r).rows d.1 in
    ((λ i. d.0 i ∷ e.0 i), e.1)

-- after a boot of any tables of the published lengths
pub same-booted : (cs : List Call) (t : Tables) → shaped t ≡ true → Same (perform_all cs (boot t).tables).answer (perform_all cs (boot t).tables).tables (perform_all_rows cs boot_rows)
same-booted cs t h = same-all cs (boot t).tables boot_rows (same-boot t h).1

-- A call that leaves the rows leaves the tables; a boot and a run apart, which write counts again or go by steps

still : {A : Type 0} (deny : Refusal → A) (f : Rows → Result (Given A)) (t : Tables) → (on_rows deny f (view t)).rows ≡ view t → (wrap deny f t).tables ≡ t
unfolding on_rows settle
still deny f t q = wrapped deny f t (λ _ z. z ≡ t) (λ _. refl) (λ _ _. refl)
    (λ b g e. ap (λ (x : Rows). put x t) (sym (ap (λ (o : Result (Given _)). (settle deny (view t) o).rows) e) ∙ q) ∙ put_view t (unbroken t b).groups)

abbrev pub OneStep : Call → Type 0
OneStep call_boot = ⊥
OneStep (call_rows c) = Unit {0}
OneStep call_step = Unit {0}
OneStep (call_run n) = ⊥

pub rows_same : (c : Call) → OneStep c → (t : Tables) (r : Rows) → Shows t r → (perform_rows c r).rows ≡ r → (perform c t).tables ≡ t
unfolding perform perform_rows
rows_same call_boot h t r s q = absurd h
rows_same (call_rows c) h t r s q = still Denied (on_row_call c) t (subst (λ (x : Rows). (on_rows Denied (on_row_call c) x).rows ≡ x) (sym s.rows) q)
rows_same call_step h t r s q = unfold step_tables in still Refused step_rows t (subst (λ (x : Rows). (on_rows Refused step_rows x).rows ≡ x) (sym s.rows) q)
rows_same (call_run n) h t r s q = absurd h
