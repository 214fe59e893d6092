-- From any store that is not broken, every call leaves one that is not broken, and so does each step of a run, which may therefore test for it once.
use Rattle.std.specs.Prelude.{◌≡◌, true, false}
use Rattle.std.proofs.Common.{sym, subst}
use Rattle.definition.specs.declared.Refusal.{Refusal}
use Rattle.definition.specs.declared.Refusal.TheVariants.{Word}
use Rattle.definition.specs.declared.Answer.TheVariants.{Refused}
use Rattle.definition.specs.declared.Reply.TheVariants.{Denied}
use Rattle.definition.specs.Answers.{Result, ok}
use Rattle.definition.specs.Tables.{Tables, shaped, Rows, view}
use Rattle.definition.specs.Broken.{broken}
use Rattle.definition.specs.Calls.{Given, boot_rows, step_rows, wrap, boot, step_tables, Call, call_boot, call_step, call_run, perform, on_row_call, call_rows}
use Rattle.laws.specs.Runs.{run-keeps}
use Rattle.laws.specs.Wrapped.{wrapped, Ok, ok_at}
use Rattle.layout.specs.Whole.{Whole}
use Rattle.layout.specs.Traced.{Traced}
use Rattle.layout.specs.Unbroken.{true-whole, broken-false}
use Rattle.layout.specs.ReadBack.{shaped-true, true-shaped, view-put}
use Rattle.unbroken.specs.Calls.{step-whole, rows_whole, boot-whole, boot-traced}

-- a call that keeps whole rows whole, and what taking back leaves of them
abbrev pub Unhurt : {A : Type 0} → Given A → Type 0
Unhurt g = Whole g.rows × Traced g.rows

abbrev pub Keeps : {A : Type 0} → (Rows → Result (Given A)) → Type 0
Keeps {A} f = (r : Rows) → Whole r → Traced r → Ok (f r) Unhurt

-- what holds of an accepted call's rows holds of what the tables then show
pub shown-traced : {A : Type 0} (deny : Refusal → A) (f : Rows → Result (Given A)) (P : A → Rows → Type 0) (t : Tables) → Keeps f → ((w : Refusal) → P (deny w) (view t))
    → (Whole (view t) → Traced (view t) → (g : Given A) → f (view t) ≡ ok g → P g.answer g.rows) → P (wrap deny f t).answer (view (wrap deny f t).tables)
shown-traced deny f P t k denied accepted = wrapped deny f t (λ a z. P a (view z)) (λ _. denied (Word 1)) (λ w _. denied w) (λ h g e.
    let u = broken-false t h in
    subst (P g.answer) (sym (view-put g.rows t u.0 (ok_at Unhurt _ (k (view t) u.1 u.2) g e).0)) (accepted u.1 u.2 g e))

pub shown : {A : Type 0} (deny : Refusal → A) (f : Rows → Result (Given A)) (P : A → Rows → Type 0) (t : Tables) → Keeps f → ((w : Refusal) → P (deny w) (view t))
    → (Whole (view t) → (g : Given A) → f (view t) ≡ ok g → P g.answer g.rows) → P (wrap deny f t).answer (view (wrap deny f t).tables)
shown deny f P t k denied accepted = shown-traced deny f P t k denied (λ w _. accepted w)

pub wrap-unbroken : {A : Type 0} (deny : Refusal → A) (f : Rows → Result (Given A)) (t : Tables) → broken t ≡ false → Keeps f → broken (wrap deny f t).tables ≡ false
wrap-unbroken deny f t h k =
    let u = broken-false t h in
    wrapped deny f t (λ _ z. broken z ≡ false) (λ _. h) (λ w _. h) (λ _ g e. let x = ok_at Unhurt _ (k (view t) u.1 u.2) g e in true-whole g.rows t u.0 x.0 x.1)

pub step-unbroken : (t : Tables) → broken t ≡ false → broken (step_tables t).tables ≡ false
unfolding step_tables
step-unbroken t h = wrap-unbroken Refused step_rows t h step-whole

pub boot-unbroken : (t : Tables) → shaped t ≡ true → broken (boot t).tables ≡ false
unfolding boot
boot-unbroken t h = rw (h, boot) (true-whole boot_rows t (shaped-true t h) boot-whole boot-traced)

-- every call, every store that is not broken
pub kept-unbroken : (c : Call) (t : Tables) → broken t ≡ false → broken (perform c t).tables ≡ false
unfolding perform
kept-unbroken call_boot t h = boot-unbroken t (true-shaped t (broken-false t h).0)
kept-unbroken (call_rows c) t h = wrap-unbroken Denied (on_row_call c) t h (λ r w. rows_whole r w c)
kept-unbroken call_step t h = step-unbroken t h
kept-unbroken (call_run n) t h = run-keeps (λ z. broken z ≡ false) step-unbroken n t h
