-- What the drive of a list of calls leaves: the tables, and a row of three cells for each answer.
use Rattle.std.specs.Prelude as Std
use Rattle.std.specs.Prelude.{◌≡◌, Some, None, Bool, true, false, List, ℕ, ◌+◌, ◌*◌, ◌<◌, length, get_or}
use Rattle.definition.specs.Lists.{write_rows}
use Rattle.definition.specs.declared.Reply.{Reply}
use Rattle.definition.specs.declared.Reply.TheVariants.{Accepted, Defined, Stepped, RanFor, Swept, Denied}
use Rattle.definition.specs.Answers.{number_of, ends_in, count_of}
use Rattle.definition.specs.Tables.{Tables, put_three}
use Rattle.definition.specs.Calls.{done, Call, boot, perform_all}
use Rattle.definition.specs.Safety.{Safe}

-- an answer's number, the number that a run ends in, and the count of its steps that ran
unfoldable pub put_reply : List ℕ → ℕ → Reply → List ℕ
put_reply t i r = put_three t i (number_of r) (ends_in r) (count_of r)

abbrev pub is_accepted : Reply → Bool
is_accepted Accepted = true
is_accepted (Defined c) = false
is_accepted (Stepped a) = false
is_accepted (RanFor n a) = false
is_accepted (Denied r) = false
is_accepted (Swept n) = false

pub record Driven : Type 0 where
  pub outcome : Std.Option ℕ
  pub tables : Tables
  pub answers : List ℕ

abbrev pub driven : Std.Option ℕ → Tables → List ℕ → Driven
driven r t cells = record { outcome = r; tables = t; answers = cells }

-- calls performed, the first being call i: their answers go into the rows from row i on, as far as the table has room
unfoldable pub performed : List Call → ℕ → Tables → List ℕ → Driven
performed cs i t answers = let d = perform_all cs t in driven (Some (i + length cs)) d.tables (write_rows put_reply d.answer i answers)

-- boot, and if it is accepted the calls; else nothing is changed
unfoldable pub drive : List Call → Tables → List ℕ → Driven
drive cs t answers = elim (is_accepted (boot t).answer) as (λ _. Driven) [ true ↦ performed cs 0 (boot t).tables answers | false ↦ driven None t answers ]

-- From an accepted boot: what is left is safe, and no number told of an answer is that of 'stuck'
pub record SafelyDriven (cs : List Call) (t u : Tables) (answers : List ℕ) : Type 0 where
  pub safe : Safe (done (perform_all cs (boot t).tables).answer u)
  pub told : (i : ℕ) → i < length cs → (get_or answers (i * 3) 0 ≡ 14 → ⊥) × (get_or answers (i * 3 + 1) 0 ≡ 14 → ⊥)
