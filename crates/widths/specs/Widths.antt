-- Every call whose arguments have their widths keeps the widths of cells, whatever the tables hold; so does every list of such calls.
use Rattle.std.proofs.Common.{sym, subst, inl, inr}
use Rattle.std.specs.Prelude.{Bool, true, false, List, [], ◌∷◌}
use Rattle.definition.specs.declared.Refusal.{Refusal}
use Rattle.definition.specs.declared.Refusal.TheVariants.{Word}
use Rattle.definition.specs.declared.Answer.TheVariants.{Refused}
use Rattle.definition.specs.declared.Reply.{Reply}
use Rattle.definition.specs.declared.Reply.TheVariants.{Accepted, Denied}
use Rattle.definition.specs.Answers.{Result}
use Rattle.definition.specs.Tables.{Tables, shaped, Rows, view, put}
use Rattle.definition.specs.Calls.{Given, boot_rows, step_rows, Done, done, wrap, boot, step_tables, Call, call_boot, call_step, call_run, perform, perform_all, on_row_call, call_rows}
use Rattle.definition.specs.Widths.{Widths, Fitting}
use Rattle.laws.specs.Runs.{run-keeps}
use Rattle.laws.specs.Wrapped.{Ok, ok_at}
use Rattle.layout.specs.Tests.{All}
use Rattle.unbroken.specs.Calls.{step-whole, rows_whole, boot-whole, boot-traced}
use Rattle.unbroken.specs.Unbroken.{Keeps}
use Rattle.widths.specs.Fits.{RowsFit, view-fits, put-widths}
use Rattle.widths.specs.Puts.{wrap-puts}
use Rattle.widths.specs.Calls.{step-rows-fit, rows-fit, boot-fits}

-- a call that leaves rows whose numbers have their widths
abbrev KeepsFit : {A : Type 0} → (Rows → Result (Given A)) → Type 0
KeepsFit {A} f = (r : Rows) → RowsFit r → Ok (f r) (λ g. RowsFit g.rows)

wrap-widths : {A : Type 0} (deny : Refusal → A) (f : Rows → Result (Given A)) (t : Tables) → Keeps f → KeepsFit f → Widths t → Widths (wrap deny f t).tables
wrap-widths deny f t whole fit w = elim (wrap-puts deny f t whole) [
  | inl e ↦ subst Widths (sym e) w
  | inr p ↦
      let fits = ok_at (λ g. RowsFit g.rows) _ (fit (view t) (view-fits t w)) p.given p.accepted in
      subst Widths (sym p.is) (put-widths p.given.rows p.whole fits p.traced t w)
]

boot-widths : (t : Tables) → Widths t → Widths (boot t).tables
unfolding boot
boot-widths t w = go (shaped t)
  where
    go : (b : Bool) → Widths (elim b as (λ _. Done Reply) [ true ↦ done Accepted (put boot_rows t) | false ↦ done (Denied (Word 1)) t ]).tables
    go true = put-widths boot_rows boot-whole boot-fits boot-traced t w
    go false = w

step-widths : (t : Tables) → Widths t → Widths (step_tables t).tables
unfolding step_tables
step-widths t w = wrap-widths Refused step_rows t step-whole step-rows-fit w

-- every call, whatever the tables hold
pub widths-kept : (c : Call) (t : Tables) → Widths t → Fitting c → Widths (perform c t).tables
unfolding perform
widths-kept call_boot t w f = boot-widths t w
widths-kept (call_rows c) t w f = wrap-widths Denied (on_row_call c) t (λ r h. rows_whole r h c) (λ r h. rows-fit r h c f) w
widths-kept call_step t w f = step-widths t w
widths-kept (call_run n) t w f = run-keeps Widths step-widths n t w

-- every list of calls
pub widths-all : (cs : List Call) (t : Tables) → Widths t → All Fitting cs → Widths (perform_all cs t).tables
unfolding perform_all
widths-all [] t w h = w
widths-all (c ∷ cs) t w h = widths-all cs (perform c t).tables (widths-kept c t w h.0) h.1
