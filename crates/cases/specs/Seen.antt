-- A table of cases, computed a row at a time: all that a row shows comes of one computation. Every call that leaves the tables is one that is refused.
use Rattle.std.specs.Prelude.{◌≡◌, refl, Bool, true, List, [], ◌∷◌, ℕ, eqb}
use Rattle.std.proofs.Common.{ap, ◌∙◌, inl}
use Rattle.definition.specs.Lists.{is_some}
use Rattle.definition.specs.Answers.{Shown, shown, details}
use Rattle.definition.specs.Constraints.{Tie, Subtype}
use Rattle.definition.specs.Calls.{boot_rows, turn}
use Rattle.definition.specs.Computing.OnRows.{perform_rows, perform_all_rows}
use Rattle.laws.specs.Refused.{refusal}
use Rattle.layout.specs.Tests.{All}
use Rattle.unbroken.specs.OnRows.{OneStep}
use Rattle.cases.specs.Cases.{Case, numbers_from, accepted}
use Rattle.cases.specs.Computed.{rows_before, rows_after, answered_rows, size, Computed}

-- what a case shows: `refuses` and `sized` are whether the last call is refused, and whether it leaves the number of classes, cache entries, frames and objects
pub record Seen : Type 0 where
  pub answer : Shown
  pub prepared : Bool
  pub ties : List Tie
  pub subtypes : List Subtype
  pub objects : List ℕ
  pub left : List ℕ
  pub refuses : Bool
  pub sized : Bool

unfoldable pub seen : Case → Seen
seen c =
    let g = perform_all_rows c.before boot_rows in
    let d = perform_rows c.last g.rows in
    record {
      answer = shown (details (turn g.rows) d.answer);
      prepared = accepted g.answer;
      ties = g.rows.ties;
      subtypes = g.rows.subtypes;
      objects = numbers_from 0 g.rows.objects;
      left = numbers_from 0 d.rows.objects;
      refuses = is_some (refusal d.answer);
      sized = eqb (size d.rows) (size g.rows);
    }

unfoldable pub meant : Case → Seen
meant c = record {
  answer = c.expect;
  prepared = true;
  ties = c.ties;
  subtypes = c.subtypes;
  objects = c.objects;
  left = c.left;
  refuses = c.unchanged;
  sized = c.unchanged;
}

pub computed-seen : (table : List Case) → All (λ c. seen c ≡ meant c) table → All (λ c. OneStep c.last) table → Computed table
unfolding seen meant rows_before rows_after answered_rows
computed-seen [] h s = record { answers = refl; prepared = refl; ties = refl; subtypes = refl; objects = refl; left = refl; stays = tt; steps = tt }
computed-seen (c ∷ cs) h s = both (computed-seen cs h.1 s.1)
  where
    e : seen c ≡ meant c
    e = h.0

    both : Computed cs → Computed (c ∷ cs)
    both r = record {
      answers = λ i. (e i).answer ∷ r.answers i;
      prepared = λ i. (e i).prepared ∷ r.prepared i;
      ties = λ i. (e i).ties ∷ r.ties i;
      subtypes = λ i. (e i).subtypes ∷ r.subtypes i;
      objects = λ i. (e i).objects ∷ r.objects i;
      left = λ i. (e i).left ∷ r.left i;
      stays = ((λ u. inl (ap (λ (x : Seen). x.refuses) e ∙ u), λ u. ap (λ (x : Seen). x.sized) e ∙ u), r.stays);
      steps = (s.0, r.steps);
    }
