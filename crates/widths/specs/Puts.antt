-- A call but a run leaves the tables as they were, or puts whole rows into them. A run does so step by step.
use Rattle.std.specs.Prelude.{◌≡◌, refl, Bool, true, false, ◌⊎◌}
use Rattle.std.proofs.Common.{inl, inr}
use Rattle.definition.specs.declared.Refusal.{Refusal}
use Rattle.definition.specs.declared.Refusal.TheVariants.{Word}
use Rattle.definition.specs.declared.Answer.TheVariants.{Refused}
use Rattle.definition.specs.declared.Reply.{Reply}
use Rattle.definition.specs.declared.Reply.TheVariants.{Accepted, Denied}
use Rattle.definition.specs.Answers.{Result, ok}
use Rattle.definition.specs.Tables.{Tables, shaped, Rows, view, put}
use Rattle.definition.specs.Calls.{Given, boot_rows, step_rows, Done, done, wrap, boot, step_tables, Call, call_boot, call_step, call_run, perform, on_row_call, call_rows}
use Rattle.laws.specs.Wrapped.{wrapped, ok_at}
use Rattle.layout.specs.Whole.{Whole}
use Rattle.layout.specs.Traced.{Traced}
use Rattle.layout.specs.Unbroken.{broken-false}
use Rattle.unbroken.specs.Calls.{step-whole, rows_whole, boot-whole}
use Rattle.unbroken.specs.Unbroken.{Unhurt, Keeps}

-- an accepted call put its rows, which are whole
pub record Put {A : Type 0} (f : Rows → Result (Given A)) (t u : Tables) : Type 0 where
  pub given : Given A
  pub accepted : f (view t) ≡ ok given
  pub whole : Whole given.rows
  pub traced : Traced given.rows
  pub is : u ≡ put given.rows t

pub wrap-puts : {A : Type 0} (deny : Refusal → A) (f : Rows → Result (Given A)) (t : Tables) → Keeps f → ((wrap deny f t).tables ≡ t) ⊎ Put f t (wrap deny f t).tables
wrap-puts deny f t keeps = wrapped deny f t (λ _ z. (z ≡ t) ⊎ Put f t z) (λ _. inl refl) (λ _ _. inl refl)
    (λ h g e.
    let u = broken-false t h in
    let x = ok_at Unhurt _ (keeps (view t) u.1 u.2) g e in
    inr (record { given = g; accepted = e; whole = x.0; traced = x.1; is = refl }))

-- the tables as they were, or with whole rows put
abbrev pub Puts : Tables → Tables → Type 0
Puts t u = (u ≡ t) ⊎ ((r : Rows) × Whole r × (u ≡ put r t))

wrapped-puts : {A : Type 0} (deny : Refusal → A) (f : Rows → Result (Given A)) (t : Tables) → Keeps f → Puts t (wrap deny f t).tables
wrapped-puts deny f t keeps = elim (wrap-puts deny f t keeps) [ inl e ↦ inl e | inr p ↦ inr (p.given.rows, p.whole, p.is) ]

boot-puts : (t : Tables) → Puts t (boot t).tables
unfolding boot
boot-puts t = go (shaped t)
  where
    go : (b : Bool) → Puts t (elim b as (λ _. Done Reply) [ true ↦ done Accepted (put boot_rows t) | false ↦ done (Denied (Word 1)) t ]).tables
    go true = inr (boot_rows, boot-whole, refl)
    go false = inl refl

pub step-puts : (t : Tables) → Puts t (step_tables t).tables
unfolding step_tables
step-puts t = wrapped-puts Refused step_rows t step-whole

abbrev pub Runs : Call → Type 0
Runs call_boot = ⊥
Runs (call_rows c) = ⊥
Runs call_step = ⊥
Runs (call_run n) = Unit {0}

pub call-puts : (c : Call) → (Runs c → ⊥) → (t : Tables) → Puts t (perform c t).tables
unfolding perform
call-puts call_boot h t = boot-puts t
call-puts (call_rows c) h t = wrapped-puts Denied (on_row_call c) t (λ r w. rows_whole r w c)
call-puts call_step h t = step-puts t
call-puts (call_run n) h t = absurd (h tt)
