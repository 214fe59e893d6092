-- The calls on rows alone: what the calls on tables answer and leave, whatever stands in the unused cells. Lists of calls are computed here.
use Rattle.std.specs.Prelude.{true, false, ◌&&◌, List, [], ◌∷◌, ℕ, zero, suc, leb}
use Rattle.definition.specs.Answers.{Refusal, Word, Answer, Idle, Ran, Finished, Refused, Reply, Accepted, Stepped, RanFor, Denied, Result, refused, ok}
use Rattle.definition.specs.Tables.{Rows}
use Rattle.definition.specs.Calls.{Given, boot_rows, step_rows, on_row_call, Call, call_boot, call_rows, call_step, call_run}

abbrev pub given_rows : {A : Type 0} → A → Rows → Given A
given_rows a r = record { answer = a; rows = r }

unfoldable pub settle : {A : Type 0} → (Refusal → A) → Rows → Result (Given A) → Given A
settle deny r (refused w) = given_rows (deny w) r
settle deny r (ok g) = g

unfoldable pub on_rows : {A : Type 0} → (Refusal → A) → (Rows → Result (Given A)) → Rows → Given A
on_rows deny f r = settle deny r (f r)

abbrev pub go_on_rows : (ℕ → Answer → Rows → Given Reply) → ℕ → Answer → Rows → Given Reply
go_on_rows go k Idle r = given_rows (RanFor k Idle) r
go_on_rows go k (Ran j) r = go (suc k) (Ran j) r
go_on_rows go k (Finished j n) r = given_rows (RanFor k (Finished j n)) r
go_on_rows go k (Refused w) r = given_rows (RanFor k (Refused w)) r

unfoldable pub run_rows : ℕ → ℕ → Answer → Rows → Given Reply
run_rows zero k a r = given_rows (RanFor k a) r
run_rows (suc n) k a r = let d = on_rows Refused step_rows r in go_on_rows (run_rows n) k d.answer d.rows

abbrev pub of_step_rows : Given Answer → Given Reply
of_step_rows g = given_rows (Stepped g.answer) g.rows

unfoldable pub perform_rows : Call → Rows → Given Reply
perform_rows call_boot r = given_rows Accepted boot_rows
perform_rows (call_rows c) r = on_rows Denied (on_row_call c) r
perform_rows call_step r = of_step_rows (on_rows Refused step_rows r)
perform_rows (call_run n) r = elim (leb 1 n && leb n 65535) as (λ _. Given Reply) [ true ↦ run_rows n 0 Idle r | false ↦ given_rows (Denied (Word 3)) r ]

unfoldable pub perform_all_rows : List Call → Rows → Given (List Reply)
perform_all_rows [] r = given_rows [] r
perform_all_rows (c ∷ cs) r = let d = perform_rows c r in let e = perform_all_rows cs d.rows in given_rows (d.answer ∷ e.answer) e.rows
