-- P1 to P10: one table of calls and what the last of them answers, by number and values, and one statement. Then the paper's worked example. Later papers have
-- tables of their own, under the same statement (`Right`).
use Rattle.std.specs.Prelude.{◌≡◌, Bool, true, false, ◌&&◌, eqb, List, [], ◌∷◌, ◌++◌, map, ℕ, suc, ℤ, pos, negsuc}
use Rattle.std.proofs.Math.Option.{some}
use Rattle.std.proofs.Math.ListN.{get_elem?}
use Rattle.definition.specs.declared.Reply.{Reply}
use Rattle.definition.specs.Lists.{all}
use Rattle.definition.specs.Answers.{Shown, shown, details, number_of, ends_in}
use Rattle.definition.specs.Constraints.{Tie, Subtype}
use Rattle.definition.specs.Machine.{free, owned, Objects}
use Rattle.definition.specs.Tables.{Tables, tie, subtype, view}
use Rattle.definition.specs.Calls.{turn, boot, Call, call_define, call_record, call_start, call_step, call_run, perform, perform_all}
use Rattle.definition.specs.Computing.Samples.{file_f, plain, coded, lifts, pushes, ready, tied12, tied123}

-- case p: after a boot and the calls `before`, which are all accepted and leave these ties, these subtype constraints and objects of these numbers, `last` answers
-- `expect`, leaves objects of the numbers `left`, and changes the tables or not
pub record Case : Type 0 where
  pub p : ℕ
  pub before : List Call
  pub ties : List Tie
  pub subtypes : List Subtype
  pub objects : List ℕ
  pub last : Call
  pub expect : Shown
  pub left : List ℕ
  pub unchanged : Bool

abbrev pub case : ℕ → List Call → List Tie → List Subtype → List ℕ → Call → Shown → List ℕ → Bool → Case
case p b ts ss os l e qs u = record { p = p; before = b; ties = ts; subtypes = ss; objects = os; last = l; expect = e; left = qs; unchanged = u }

-- the tie of loaders 2 and 1 on 12, that of 3 and 2, and 13 below 12 under loader 1
abbrev tie12 : Tie
tie12 = tie 2 1 12

abbrev tie23 : Tie
tie23 = tie 3 2 12

abbrev below1 : Subtype
below1 = subtype 1 13 12

abbrev pub line : ℕ → ℕ → ℕ → ℤ → Shown
line n a b c = record { refusal = n; one = a; two = b; three = c }

abbrev pub fine : Shown
fine = line 0 0 0 (pos 0)

-- refused with word n
abbrev pub no : ℕ → Shown
no n = line n 0 0 (pos 0)

-- the class that define answers
abbrev pub class : ℕ → Shown
class c = line 0 c 0 (pos 0)

unfoldable pub table : List Case
table =
    case 1 [] [] [] [] call_step fine [] true
    ∷ case 2 [] [] [] [] (call_define 1 file_f) (line 5 1 2 (pos 0)) [] true
    ∷ case 2 ready [] [] [] (call_define 1 file_f) (class 1) [] false
    ∷ case 3 (ready ++ call_define 1 file_f ∷ []) [] [] [] (call_define 1 file_f) (no 4) [] true
    ∷ case 3 (ready ++ call_define 1 file_f ∷ []) [] [] [] (call_define 2 file_f) (class 2) [] false
    ∷ case 4 [] [] [] [] (call_record 1 2 0) fine [] false
    ∷ case 4 (call_record 1 2 0 ∷ []) [] [] [] (call_record 1 2 0) fine [] true
    ∷ case 5 (tied12 ++ call_define 1 (plain 12 2) ∷ []) (tie12 ∷ []) [] [] (call_define 2 (plain 12 2)) (no 9) [] true
    ∷ case 5 (tied12 ++ call_define 1 (plain 12 2) ∷ []) (tie12 ∷ []) [] [] (call_record 2 12 3) fine [] false
    ∷ case 6 (tied123 ++ call_define 1 (plain 12 2) ∷ []) (tie12 ∷ tie23 ∷ []) [] [] (call_define 3 (plain 12 2)) (no 9) [] true
    ∷ case 6 (tied123 ++ call_define 1 (plain 12 2) ∷ []) (tie12 ∷ tie23 ∷ []) [] [] (call_record 3 12 4) fine [] false
    ∷ case 7 (tied12 ++ call_define 1 lifts ∷ call_define 2 (plain 12 2) ∷ []) (tie12 ∷ []) (below1 ∷ []) [] (call_define 1 (plain 13 2)) (no 9) [] true
    ∷ case 7 (tied12 ++ call_define 1 lifts ∷ call_define 2 (plain 12 2) ∷ call_record 1 12 4 ∷ []) (tie12 ∷ []) (below1 ∷ []) [] (call_define 1 (plain 13 12)) (class 5) [] false
    ∷ case 8 (ready ++ call_define 1 (coded (0x15 ∷ 1 ∷ 0x11 ∷ 0 ∷ 1 ∷ 0x60 ∷ 0xAC ∷ [])) ∷ call_start 0 1 10 20 2147483647 ∷ call_run 3 ∷ []) [] [] (0 ∷ []) call_step (line 0 2 0 (negsuc 2147483647)) (0 ∷ []) false
    ∷ case 9 (ready ++ call_define 1 (coded (0x01 ∷ 0xB4 ∷ 0 ∷ 99 ∷ 0 ∷ 5 ∷ 0 ∷ 1 ∷ 0xAC ∷ [])) ∷ call_start 0 1 10 20 7 ∷ call_step ∷ []) [] [] (0 ∷ []) call_step (line 5 1 99 (pos 0)) (0 ∷ []) true
    ∷ case 10 ready [] [] [] (call_define 1 (coded (pushes 16))) (class 1) [] false
    ∷ case 10 ready [] [] [] (call_define 1 (coded (pushes 17))) (no 6) [] true
    ∷ []

-- the tables before the last call, and its answer's number and values
unfoldable pub before_last : Tables → Case → Tables
before_last t c = (perform_all c.before (boot t).tables).tables

unfoldable pub answered : Tables → Case → Shown
answered t c = shown (details (turn (view (before_last t c))) (perform c.last (before_last t c)).answer)

unfoldable pub after_last : Tables → Case → Tables
after_last t c = (perform c.last (before_last t c)).tables

-- whether every call was accepted, and no run ended in a refusal
unfoldable pub accepted : List Reply → Bool
accepted as' = all (λ a. eqb (number_of a) 0 && eqb (ends_in a) 0) as'

unfoldable pub prepared_by : Tables → Case → Bool
prepared_by t c = accepted (perform_all c.before (boot t).tables).answer

-- the numbers of the objects in rows, the first of number o
unfoldable pub numbers_from : ℕ → Objects → List ℕ
numbers_from o [] = []
numbers_from o (free ∷ os) = numbers_from (suc o) os
numbers_from o (owned k x ∷ os) = o ∷ numbers_from (suc o) os

-- every case of a table, from a boot of the tables t
pub record Right (table : List Case) (t : Tables) : Type 0 where
  pub prepared : map (prepared_by t) table ≡ map (λ _. true) table
  pub ties : map (λ c. (view (before_last t c)).ties) table ≡ map (λ c. c.ties) table
  pub subtypes : map (λ c. (view (before_last t c)).subtypes) table ≡ map (λ c. c.subtypes) table
  pub objects : map (λ c. numbers_from 0 (view (before_last t c)).objects) table ≡ map (λ c. c.objects) table
  pub left : map (λ c. numbers_from 0 (view (after_last t c)).objects) table ≡ map (λ c. c.left) table
  pub answers : map (answered t) table ≡ map (λ c. c.expect) table
  pub unchanged : (i : ℕ) (c : Case) → get_elem? table i ≡ some c → c.unchanged ≡ true → after_last t c ≡ before_last t c
  pub changed : (i : ℕ) (c : Case) → get_elem? table i ≡ some c → c.unchanged ≡ false → after_last t c ≡ before_last t c → ⊥

-- The paper's worked example as bytes, a line each: R 1 2 0; D 1 with F; S 0 1 10 20 7; N; N; N
unfoldable pub input : List ℕ
input =
    82 ∷ 32 ∷ 49 ∷ 32 ∷ 50 ∷ 32 ∷ 48 ∷ 10
    ∷ 68 ∷ 32 ∷ 49 ∷ 32 ∷ 48 ∷ 49 ∷ 48 ∷ 48 ∷ 49 ∷ 49 ∷ 48 ∷ 48 ∷ 48 ∷ 65 ∷ 48 ∷ 48 ∷ 48 ∷ 50 ∷ 48 ∷ 48 ∷ 48 ∷ 49 ∷ 48 ∷ 48 ∷ 49 ∷ 52 ∷ 48 ∷ 48 ∷ 48 ∷ 49 ∷ 48 ∷ 48 ∷ 48 ∷ 49 ∷ 48 ∷ 48 ∷ 48 ∷ 51 ∷ 49 ∷ 53 ∷ 48 ∷ 49 ∷ 65 ∷ 67 ∷ 10
    ∷ 83 ∷ 32 ∷ 48 ∷ 32 ∷ 49 ∷ 32 ∷ 49 ∷ 48 ∷ 32 ∷ 50 ∷ 48 ∷ 32 ∷ 55 ∷ 10
    ∷ 78 ∷ 10
    ∷ 78 ∷ 10
    ∷ 78 ∷ 10 ∷ []

-- R 0 0 0 0; D 0 1 0 0; S 0 0 0 0; N 0 1 0 0; N 0 2 0 7; N 0 0 0 0
unfoldable pub output : List ℕ
output =
    82 ∷ 32 ∷ 48 ∷ 32 ∷ 48 ∷ 32 ∷ 48 ∷ 32 ∷ 48 ∷ 10
    ∷ 68 ∷ 32 ∷ 48 ∷ 32 ∷ 49 ∷ 32 ∷ 48 ∷ 32 ∷ 48 ∷ 10
    ∷ 83 ∷ 32 ∷ 48 ∷ 32 ∷ 48 ∷ 32 ∷ 48 ∷ 32 ∷ 48 ∷ 10
    ∷ 78 ∷ 32 ∷ 48 ∷ 32 ∷ 49 ∷ 32 ∷ 48 ∷ 32 ∷ 48 ∷ 10
    ∷ 78 ∷ 32 ∷ 48 ∷ 32 ∷ 50 ∷ 32 ∷ 48 ∷ 32 ∷ 55 ∷ 10
    ∷ 78 ∷ 32 ∷ 48 ∷ 32 ∷ 48 ∷ 32 ∷ 48 ∷ 32 ∷ 48 ∷ 10 ∷ []
