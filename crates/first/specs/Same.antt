-- The first document's machine is still there: a call of it, and the same call of today's machine on tables that carry its tables, give the same answer and
-- leave tables that carry its tables again, but for the calls in which what the papers name is involved. So do lists of calls in which none is.
--
-- A paper adds to three definitions alone: what today's tables hold beyond the first document's is forgotten by `Carries`, an old call is asked of today's
-- machine as `today` says, and what the paper names is a case of `Involved`. Of the papers so far:
--
-- 1, dead objects: `Carries` forgets the owners. No call of the first document frees a row, so none is involved.
-- 2, choices and loops: tables carry as before. Files of a later version are involved: a define of one, and any call but boot on tables that keep one.
-- 3, why a load clashed: `Carries` forgets the numbers of rows, which are some that aren't broken. Every call of the first document numbers on, so none is involved. A tried
-- load is no call of the first document, as a sweep is none.
-- 6, hidden fields: tables carry as before. A define that the first document's machine refuses for a hidden field, with 8, is involved, and no other call: a kept file that hides a field
-- was never broken, and both machines find a field's place by the class that declares it.
-- 7, more than one argument: tables carry as before. Files of version 3 are involved as those of version 2 are. The first document's machine reads, verifies, selects, ties and calls with one argument, in its own text
-- (definition/First); a signature of a version 1 file has a list of one, and with that today's machine does the same.
-- 8, room kept for quotes: `Carries` forgets whose an object is. A call that today's machine answers with 18, and a run that ends in it, are involved: the first document's report had no share.
-- In a list that starts no report, where the report has no frame, none is (`unshared-quotes`).
-- 10, taking back a load, and 11, groups: `Carries` forgets the trace and the groups, which are some that aren't broken. Neither answers a call of the first document, so none is involved.
-- 12, changing over: the first document's machine stands among the definitions, and its tables are carried by `carry` (Changeover).
use Rattle.std.specs.Prelude.{◌≡◌, refl, Bool, true, false, List, [], ◌∷◌, map, ◌⊎◌, ℕ, eqb}
use Rattle.std.proofs.Math.Path.{ap}
use Rattle.std.proofs.Math.Logic.{inl, inr}
use Rattle.std.proofs.Common.{eqb-true}
use Rattle.std.proofs.lemmas.Bool.{eqb-false}
use Rattle.definition.specs.Numbers.{word_hidden}
use Rattle.definition.specs.Lists.{Each}
use Rattle.definition.specs.Answers.{number_of}
use Rattle.definition.specs.declared.Reply.{Reply}
use Rattle.definition.specs.declared.Reply.TheVariants.{Accepted, Stepped}
use Rattle.definition.specs.Tables.{Tables, view}
use Rattle.definition.specs.Calls.{boot, Done, Call, call_boot, call_rows, call_step, call_run, perform, perform_all}
use Rattle.definition.specs.First.Tables.{FirstTables}
use Rattle.definition.specs.First.Calls.{FirstReply, FirstRowCall, first_row_define, first_row_record, first_row_start, first_row_drop, FirstCall, first_call_boot, first_call_rows, first_call_step, first_call_run, FirstDone, first_boot, first_perform, first_perform_all}
use Rattle.first.specs.SameFiles.{later_file}
use Rattle.first.specs.SameRows.{BringsLater, BringsNone, today_row}
pub use Rattle.first.specs.Carries.{Carries, EarlyTables, keeps_later, keeps-none, same-broken}
use Rattle.layout.specs.Tests.{All}
use Rattle.unbroken.specs.Share.{refused-share, idle-unshared, idle-run-unshared}
use Rattle.unbroken.specs.Tasks.{StartsReport, report-none}
use Rattle.first.specs.KeepsNone.{keeps-early, booted-early}
use Rattle.first.specs.SameCalls.{Unhidden, ToldCall, ToldRun, same-boot, same-rows-call, same-step-tables, same-run}

-- a call of the first document, asked of today's machine
abbrev pub today : FirstCall → Call
today first_call_boot = call_boot
today (first_call_rows c) = call_rows (today_row c)
today first_call_step = call_step
today (first_call_run n) = call_run n

abbrev pub SameAnswer : FirstReply → Reply → Type 0
SameAnswer a b = a ≡ b

-- what the papers name is involved in call c on tables u, which the first document's machine answers with a and today's with b: a file of a later version, which the
-- tables keep or the call brings, a hidden field, for which the first document's machine refuses it, or the report's share, for which today's machine refuses it or
-- ends the run
abbrev pub Involved : FirstCall → FirstTables → FirstReply → Reply → Type 0
Involved first_call_boot u a b = ⊥
Involved (first_call_rows c) u a b = (keeps_later u ≡ true) ⊎ (BringsLater c ⊎ ((number_of a ≡ word_hidden) ⊎ ToldCall b))
Involved first_call_step u a b = (keeps_later u ≡ true) ⊎ ToldCall b
Involved (first_call_run n) u a b = (keeps_later u ≡ true) ⊎ ToldRun b

-- One call

pub record Alike (d : FirstDone FirstReply) (e : Done Reply) : Type 0 where
  pub answer : SameAnswer d.answer e.answer
  pub tables : Carries d.tables e.tables

-- a call that brings no such file, on tables that keep none
abbrev pub CallBringsNone : FirstCall → Type 0
CallBringsNone first_call_boot = Unit {0}
CallBringsNone (first_call_rows c) = BringsNone c
CallBringsNone first_call_step = Unit {0}
CallBringsNone (first_call_run n) = Unit {0}

boot-call : (u : FirstTables) (t : Tables) → Carries u t → Alike (first_perform first_call_boot u) (perform call_boot t)
unfolding first_perform perform
boot-call u t h = let d = same-boot u t h in record { answer = d.answer; tables = d.tables }

-- today's answer tells of the report's share
abbrev pub Told : FirstCall → Reply → Type 0
Told first_call_boot b = ⊥
Told (first_call_rows c) b = ToldCall b
Told first_call_step b = ToldCall b
Told (first_call_run n) b = ToldRun b

module _ (u : FirstTables) (t : Tables) (h : Carries u t) (x : EarlyTables u) where
  row-call : (c : FirstRowCall) → BringsNone c → Unhidden (first_perform (first_call_rows c) u).answer
      → Alike (first_perform (first_call_rows c) u) (perform (call_rows (today_row c)) t) ⊎ ToldCall (perform (call_rows (today_row c)) t).answer
  unfolding first_perform perform
  row-call c b n = elim (same-rows-call c b u t h x n) [ inl d ↦ inl (record { answer = d.answer; tables = d.tables }) | inr s ↦ inr s ]

  step_call : Alike (first_perform first_call_step u) (perform call_step t) ⊎ ToldCall (perform call_step t).answer
  unfolding first_perform perform number_of
  step_call = elim (same-step-tables u t h x) [ inl d ↦ inl (record { answer = ap Stepped d.answer; tables = d.tables }) | inr s ↦ inr s ]

  run_call : (n : ℕ) → Alike (first_perform (first_call_run n) u) (perform (call_run n) t) ⊎ ToldRun (perform (call_run n) t).answer
  unfolding first_perform perform
  run_call n = elim (same-run n u t h x) [ inl d ↦ inl (record { answer = d.answer; tables = d.tables }) | inr s ↦ inr s ]

  pub same-call : (c : FirstCall) → CallBringsNone c → Unhidden (first_perform c u).answer → Alike (first_perform c u) (perform (today c) t) ⊎ Told c (perform (today c) t).answer
  same-call first_call_boot b n = inl (boot-call u t h)
  same-call (first_call_rows c) b n = row-call c b n
  same-call first_call_step b n = step_call
  same-call (first_call_run m) b n = run_call m

brings : (c : FirstRowCall) → BringsLater c ⊎ BringsNone c
brings (first_row_define l bs) = go (later_file bs)
  where
    go : (b : Bool) → (b ≡ true) ⊎ (b ≡ false)
    go true = inl refl
    go false = inr refl
brings (first_row_record l n c) = inr tt
brings (first_row_start k l n m v) = inr tt
brings (first_row_drop k) = inr tt

pub one-call : (c : FirstCall) (u : FirstTables) (t : Tables) → Carries u t
    → Involved c u (first_perform c u).answer (perform (today c) t).answer ⊎ Alike (first_perform c u) (perform (today c) t)
one-call c u t h = go c (keeps_later u) refl
  where
    -- a call that has another word than 8
    seen : (a : FirstReply) → (number_of a ≡ word_hidden) ⊎ Unhidden a
    seen a = by (eqb (number_of a) word_hidden) refl
      where
        by : (b : Bool) → eqb (number_of a) word_hidden ≡ b → (number_of a ≡ word_hidden) ⊎ Unhidden a
        by true q = inl (eqb-true _ _ q)
        by false q = inr (eqb-false _ _ q)

    go : (c : FirstCall) (b : Bool) → keeps_later u ≡ b → Involved c u (first_perform c u).answer (perform (today c) t).answer ⊎ Alike (first_perform c u) (perform (today c) t)
    go first_call_boot b e = inr (boot-call u t h)
    go (first_call_rows c) true e = inl (inl e)
    go (first_call_rows c) false e = by (brings c) (seen (first_perform (first_call_rows c) u).answer)
      where
        by : BringsLater c ⊎ BringsNone c → (number_of (first_perform (first_call_rows c) u).answer ≡ word_hidden) ⊎ Unhidden (first_perform (first_call_rows c) u).answer
            → Involved (first_call_rows c) u (first_perform (first_call_rows c) u).answer (perform (call_rows (today_row c)) t).answer ⊎ Alike (first_perform (first_call_rows c) u) (perform (call_rows (today_row c)) t)
        by (inl l) q = inl (inr (inl l))
        by (inr n) (inl q) = inl (inr (inr (inl q)))
        by (inr n) (inr q) = elim (row-call u t h (keeps-none u e) c n q) [ inl d ↦ inr d | inr s ↦ inl (inr (inr (inr s))) ]
    go first_call_step true e = inl (inl e)
    go first_call_step false e = elim (step_call u t h (keeps-none u e)) [ inl d ↦ inr d | inr s ↦ inl (inr s) ]
    go (first_call_run n) true e = inl (inl e)
    go (first_call_run n) false e = elim (run_call u t h (keeps-none u e) n) [ inl d ↦ inr d | inr s ↦ inl (inr s) ]

-- Lists of calls

-- in none of the calls is it involved
abbrev pub Uninvolved : List FirstCall → FirstTables → Tables → Type 0
Uninvolved [] u t = Unit {0}
Uninvolved (c ∷ cs) u t =
    (Involved c u (first_perform c u).answer (perform (today c) t).answer → ⊥) × Uninvolved cs (first_perform c u).tables (perform (today c) t).tables

-- every answer is the same, and the tables left carry those left by the first document's machine
pub many-calls : (cs : List FirstCall) (u : FirstTables) (t : Tables) → Carries u t → Uninvolved cs u t
    → Each SameAnswer (first_perform_all cs u).answer (perform_all (map today cs) t).answer × Carries (first_perform_all cs u).tables (perform_all (map today cs) t).tables
unfolding perform_all first_perform_all
many-calls [] u t h n = (tt, h)
many-calls (c ∷ cs) u t h n = go (one-call c u t h) (λ k. many-calls cs (first_perform c u).tables (perform (today c) t).tables k n.1)
  where
    go : Involved c u (first_perform c u).answer (perform (today c) t).answer ⊎ Alike (first_perform c u) (perform (today c) t)
        → (Carries (first_perform c u).tables (perform (today c) t).tables
        → Each SameAnswer (first_perform_all cs (first_perform c u).tables).answer (perform_all (map today cs) (perform (today c) t).tables).answer
        × Carries (first_perform_all cs (first_perform c u).tables).tables (perform_all (map today cs) (perform (today c) t).tables).tables)
        → Each SameAnswer (first_perform_all (c ∷ cs) u).answer (perform_all (map today (c ∷ cs)) t).answer
        × Carries (first_perform_all (c ∷ cs) u).tables (perform_all (map today (c ∷ cs)) t).tables
    go (inl x) later = absurd (n.0 x)
    go (inr a) later = let l = later a.tables in ((a.answer, l.0), l.1)

-- Version 1 alone: the calls bring no file of a later version, the tables keep none, the first document's machine refuses none for a hidden field, and today's none for the report's share. Then
-- every answer is what it was, and the tables left keep none

abbrev SameLeft : List FirstCall → FirstTables → Tables → Type 0
SameLeft cs u t = Each SameAnswer (first_perform_all cs u).answer (perform_all (map today cs) t).answer × Carries (first_perform_all cs u).tables (perform_all (map today cs) t).tables

-- none of today's answers tells of it
abbrev pub Unshared : List FirstCall → Tables → Type 0
Unshared [] t = Unit {0}
Unshared (c ∷ cs) t = (Told c (perform (today c) t).answer → ⊥) × Unshared cs (perform (today c) t).tables

-- it holds by itself of a list that starts no report, where the report has no frame
abbrev pub StartsNone : FirstCall → Type 0
StartsNone c = StartsReport (today c) → ⊥

untold-call : (c : FirstCall) → StartsNone c → (t : Tables) → (view t).report ≡ [] → Told c (perform (today c) t).answer → ⊥
untold-call first_call_boot h t e q = q
untold-call (first_call_rows (first_row_define l bs)) h t e q = (refused-share (call_rows (today_row (first_row_define l bs))) t q).0
untold-call (first_call_rows (first_row_record l n c)) h t e q = (refused-share (call_rows (today_row (first_row_record l n c))) t q).0
untold-call (first_call_rows (first_row_start k l n m v)) h t e q = h (refused-share (call_rows (today_row (first_row_start k l n m v))) t q).0
untold-call (first_call_rows (first_row_drop k)) h t e q = (refused-share (call_rows (today_row (first_row_drop k))) t q).0
untold-call first_call_step h t e q = idle-unshared t e (refused-share call_step t q).0
untold-call (first_call_run n) h t e q = idle-run-unshared n t e q

pub unshared-quotes : (cs : List FirstCall) → All StartsNone cs → (t : Tables) → (view t).report ≡ [] → Unshared cs t
unshared-quotes [] h t e = tt
unshared-quotes (c ∷ cs) h t e = (untold-call c h.0 t e, unshared-quotes cs h.1 (perform (today c) t).tables (report-none (today c) h.0 t e))

pub answers-kept : (cs : List FirstCall) → All CallBringsNone cs → (u : FirstTables) (t : Tables) → Carries u t → EarlyTables u → All Unhidden (first_perform_all cs u).answer → Unshared cs t
    → SameLeft cs u t × EarlyTables (first_perform_all cs u).tables
unfolding perform_all first_perform_all
answers-kept [] b u t h x n s = ((tt, h), x)
answers-kept (c ∷ cs) b u t h x n s = go (same-call u t h x c b.0 n.0) (λ k. answers-kept cs b.1 (first_perform c u).tables (perform (today c) t).tables k (keeps-early c u x) n.1 s.1)
  where
    go : Alike (first_perform c u) (perform (today c) t) ⊎ Told c (perform (today c) t).answer
        → (Carries (first_perform c u).tables (perform (today c) t).tables → SameLeft cs (first_perform c u).tables (perform (today c) t).tables × EarlyTables (first_perform_all cs (first_perform c u).tables).tables)
        → SameLeft (c ∷ cs) u t × EarlyTables (first_perform_all (c ∷ cs) u).tables
    go (inr z) later = absurd (s.0 z)
    go (inl a) later = let r = later a.tables in (((a.answer, r.0.0), r.0.1), r.1)

-- so from a boot that is accepted, whatever the tables held
pub answers-from-boot : (u : FirstTables) (t : Tables) → Carries u t → (first_boot u).answer ≡ Accepted → (cs : List FirstCall) → All CallBringsNone cs
    → All Unhidden (first_perform_all cs (first_boot u).tables).answer → Unshared cs (boot t).tables → SameLeft (first_call_boot ∷ cs) u t
unfolding perform_all first_perform_all first_perform perform
answers-from-boot u t h e cs b n s =
    let a = same-boot u t h in
    let r = answers-kept cs b (first_boot u).tables (boot t).tables a.tables (booted-early u e) n s in
    ((a.answer, r.0.0), r.0.1)
