-- P1 to P10 hold from a boot of any tables that boot accepts, and so of zeros; and boxscript prints the paper's worked example as the paper does.
use Rattle.std.specs.Prelude.{◌≡◌, refl, true, List, [], ◌∷◌, ◌++◌, map, ◌⊎◌, ℕ}
use Rattle.std.proofs.Common.{sym, ◌∙◌, inl, inr}
use Rattle.std.proofs.Math.Path.{ap}
use Rattle.std.proofs.Math.Option.{Option, none, some}
use Rattle.std.proofs.lemmas.Bool.{eqb-false}
use Rattle.definition.specs.declared.Reply.{Reply}
use Rattle.definition.specs.declared.Reply.TheVariants.{Accepted}
use Rattle.definition.specs.Lists.{every, is_some}
use Rattle.definition.specs.Maybe.{◌>>=◌}
use Rattle.definition.specs.Answers.{shown, details}
use Rattle.definition.specs.Tables.{Tables, shaped, zeros, Rows, view}
use Rattle.definition.specs.Calls.{turn, boot_rows, boot, perform}
use Rattle.definition.specs.Computing.OnRows.{perform_rows, perform_all_rows}
use Rattle.definition.specs.Script.{Line, read_line, printed_line, turned, carry_out, script, lines_of, boxscript}
use Rattle.laws.specs.Refused.{refusal, refused-same}
use Rattle.layout.specs.Tests.{is-some}
use Rattle.unbroken.specs.Steps.{all-nth}
use Rattle.unbroken.specs.OnRows.{Same, Shows, accepted-shaped, same-boot, same-booted, same-perform, OneStep, rows_same}
use Rattle.cases.specs.Cases.{Case, table, numbers_from, before_last, answered, after_last, Right, prepared_by, accepted, input, output}
use Rattle.cases.specs.Computed.{rows_before, rows_after, answered_rows, size, Stays, script_rows, Computed, computed, printed}

-- From rows to tables

map_same : {A B : Type 0} (f g : A → B) → ((x : A) → f x ≡ g x) → (xs : List A) → map f xs ≡ map g xs
map_same f g h [] = refl
map_same f g h (x ∷ xs) = λ i. h x i ∷ map_same f g h xs i

module _ (t : Tables) (h : shaped t ≡ true) (c : Case) where
  shows : Shows (before_last t c) (rows_before c)
  unfolding before_last rows_before
  shows = (same-booted c.before t h).1

  did : Same (perform c.last (before_last t c)).answer (after_last t c) (perform_rows c.last (rows_before c))
  unfolding after_last
  did = same-perform c.last (before_last t c) (rows_before c) shows

  prepared-same : prepared_by t c ≡ accepted (perform_all_rows c.before boot_rows).answer
  unfolding prepared_by
  prepared-same = ap accepted (same-booted c.before t h).0

  answered-rows : answered t c ≡ answered_rows c
  unfolding answered answered_rows
  answered-rows = λ i. shown (details (turn (shows.rows i)) (did.0 i))

  view-left : view (after_last t c) ≡ rows_after c
  unfolding rows_after
  view-left = did.1.rows

keeps : (t : Tables) (h : shaped t ≡ true) (c : Case) → OneStep c.last → (is_some (refusal (perform_rows c.last (rows_before c)).answer) ≡ true) ⊎ (rows_after c ≡ rows_before c) → after_last t c ≡ before_last t c
unfolding after_last rows_after
keeps t h c o (inl q) =
    let w = is-some (refusal (perform c.last (before_last t c)).answer) (ap (λ (a : Reply). is_some (refusal a)) (did t h c).0 ∙ q) in
    (refused-same c.last (before_last t c) w.0 w.1).same
keeps t h c o (inr q) = rows_same c.last o (before_last t c) (rows_before c) (shows t h c) q

-- what was computed on rows holds from a boot of any tables that boot accepts
pub right : (table : List Case) → Computed table → (t : Tables) → (boot t).answer ≡ Accepted → Right table t
right table computed t a = record {
  prepared = map_same (prepared_by t) (λ c. accepted (perform_all_rows c.before boot_rows).answer) (prepared-same t h) table ∙ computed.prepared;
  ties = map_same (λ c. (view (before_last t c)).ties) (λ c. (rows_before c).ties) (λ c. ap (λ (r : Rows). r.ties) (shows t h c).rows) table ∙ computed.ties;
  subtypes = map_same (λ c. (view (before_last t c)).subtypes) (λ c. (rows_before c).subtypes) (λ c. ap (λ (r : Rows). r.subtypes) (shows t h c).rows) table ∙ computed.subtypes;
  objects = map_same (λ c. numbers_from 0 (view (before_last t c)).objects) (λ c. numbers_from 0 (rows_before c).objects) (λ c. ap (λ (r : Rows). numbers_from 0 r.objects) (shows t h c).rows) table ∙ computed.objects;
  left = map_same (λ c. numbers_from 0 (view (after_last t c)).objects) (λ c. numbers_from 0 (rows_after c).objects) (λ c. ap (λ (r : Rows). numbers_from 0 r.objects) (view-left t h c)) table ∙ computed.left;
  answers = map_same (answered t) answered_rows (answered-rows t h) table ∙ computed.answers;
  unchanged = λ i c e u. keeps t h c (all-nth (λ c. OneStep c.last) table computed.steps i c e) ((all-nth Stays table computed.stays i c e).0 u);
  changed = λ i c e u q. eqb-false _ _ ((all-nth Stays table computed.stays i c e).1 u) (ap size (sym (view-left t h c) ∙ ap view q ∙ (shows t h c).rows));
}
  where
    h : shaped t ≡ true
    h = accepted-shaped t a

pub cases : (t : Tables) → (boot t).answer ≡ Accepted → Right table t
cases t a = right table computed t a

-- In a program each table starts as zeros

zeros-accepted : (boot zeros).answer ≡ Accepted
unfolding boot shaped every zeros
zeros-accepted = refl

pub from-zeros : Right table zeros
from-zeros = cases zeros zeros-accepted

-- boxscript on tables is boxscript on rows

script-same : (ls : List (List ℕ)) (t : Tables) (r : Rows) → Shows t r → script ls t ≡ script_rows ls r
unfolding script script_rows carry_out turned ◌>>=◌
script-same [] t r s = refl
script-same (l ∷ ls) t r s = go (read_line l) (λ u q h. script-same ls u q h)
  where
    go : (o : Option Line) → ((u : Tables) (q : Rows) → Shows u q → script ls u ≡ script_rows ls q) → ◌≡◌ {A = List ℕ} (elim (o >>= λ x. some (turned x.letter t (perform x.call t))) as (λ _. List ℕ) [ none ↦ [] | some y ↦ y.output ++ script ls y.tables ])
        (elim o as (λ _. List ℕ) [ none ↦ [] | some x ↦ printed_line x.letter (details (turn r) (perform_rows x.call r).answer) ++ script_rows ls (perform_rows x.call r).rows ])
    go none ih = refl
    go (some x) ih =
        let d = same-perform x.call t r s in
        (λ i. printed_line x.letter (details (turn (s.rows i)) (d.0 i)) ++ script ls (perform x.call t).tables)
        ∙ ap (λ (o : List ℕ). printed_line x.letter (details (turn r) (perform_rows x.call r).answer) ++ o) (ih (perform x.call t).tables (perform_rows x.call r).rows d.1)

-- the paper's worked example, from a boot of any tables that boot accepts
pub example : (t : Tables) → (boot t).answer ≡ Accepted → boxscript t input ≡ output
unfolding boxscript
example t h = script-same (lines_of input) (boot t).tables boot_rows (same-boot t (accepted-shaped t h)).1 ∙ printed
