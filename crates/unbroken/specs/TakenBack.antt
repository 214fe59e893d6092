-- Taking back a load (paper 10): what the call answers and leaves, that it undoes the latest load that changed the store, and that so many loads of the last 32
-- are undone by so many takings back, whatever calls that close nothing came between.
use Rattle.std.specs.Prelude.{◌≡◌, Bool, true, false, ◌&&◌, ◌⊎◌, ◌≢◌, length, get_or, set, take, replicate, leb, ltb}
use Rattle.std.proofs.Math.Path.{refl, ap, subst}
use Rattle.std.proofs.Common.{sym, ◌∙◌, inr, arith, length-append, length-set, lt-ltb, le-ltb, take-take, take_all, get_or-set_same, get_or-set_other}
use Rattle.std.proofs.lemmas.Bool.{false≢true}
use Rattle.std.proofs.Math.Option.{Option, none, some, none-ne-some, some-injective}
use mathlib.Core.List.{List, [], ◌∷◌, ◌++◌}
use Rattle.std.proofs.Math.Logic.{inl}
use Prim.Native.Nat.{ℕ, zero, suc, ◌+◌, ◌-◌, ◌≤◌, ◌<◌}
use Rattle.std.proofs.Math.ListN.{get_elem?}
use Rattle.definition.specs.declared.Refusal.{Refusal}
use Rattle.definition.specs.declared.Refusal.TheVariants.{Word}
use Rattle.definition.specs.declared.Answer.{Answer}
use Rattle.definition.specs.declared.Answer.TheVariants.{Idle, Ran, Finished, Refused}
use Rattle.definition.specs.declared.Reply.{Reply}
use Rattle.definition.specs.declared.Reply.TheVariants.{Accepted, Denied}
use Rattle.definition.specs.Numbers.{word_late, count_ties, tie_numbers_cell, loads_cell, groups_cell}
use Rattle.definition.specs.Lists.{rows, stack}
use Rattle.definition.specs.Constraints.{Tie}
use Rattle.definition.specs.Tables.{Tables, tables, shaped, Level, Rows, level_of, cut_to, with_trace, tie_at, number_at, level_at, world_of, view_base, view_over, view, put_groups, put}
use Rattle.definition.specs.Broken.{trace_fits, broken}
use Rattle.definition.specs.Machine.{Frame}
use Rattle.definition.specs.Calls.{Given, Done, done, carried, boot, taken_back, Load, load_define, load_record, RowCall, row_define, row_record, row_start, row_drop, row_sweep, row_try, row_take_back, on_row_call, Call, call_boot, call_rows, call_step, call_run, call_take_back, step_task, step_on, step_tables, step_rows, go_on, run_from, run, perform, perform_all}
use Rattle.definition.specs.Computing.OnRows.{given_rows, settle, on_rows, perform_rows, perform_all_rows}
use Rattle.laws.specs.Refusals.{load_call}
use Rattle.laws.specs.Refused.{refusal, refused-same, step-refused}
use Rattle.laws.specs.Runs.{run-keeps, runs-end}
use Rattle.unbroken.specs.Parts.{idle-same}
use Rattle.unbroken.specs.Lasting.{UnloadsRows, Unloads}
use Rattle.laws.specs.Wrapped.{wrap-broken, wrap-carried, Ok, ok_at, then}
use Rattle.layout.specs.Traced.{EachTurn, Leaves, Under, cut_load, fits-trace, trace-fits}
use Rattle.layout.specs.Whole.{Whole, whole-sound}
use Rattle.unbroken.specs.Cut.{cut-whole}
use Rattle.layout.specs.Fills.{count_at, classes-fill, kept-fill, cache-fill, ties-fill, subtypes-fill}
use Rattle.layout.specs.View.{back-writes}
use Rattle.layout.specs.Places.{rows-length}
use Rattle.layout.specs.GroupedRows.{put_groups-before, put_groups-behind}
use Rattle.layout.specs.ReadBack.{view-put}
use Rattle.layout.specs.Unbroken.{unbroken, broken-false}
use Rattle.unbroken.specs.Calls.{rows_whole, step-whole}
use Rattle.unbroken.specs.Traces.{Remembers, Loaded, TakesBack, TraceBy, rows-trace, step-trace}
use Rattle.unbroken.specs.Unbroken.{Unhurt, shown, kept-unbroken}
use Rattle.unbroken.specs.OnRows.{Same, same-boot, same-all}

-- A call on rows leaves the rows, or does to the trace what it does where it is accepted

traces-or-same : (c : RowCall) (t : Tables) → (view (perform (call_rows c) t).tables ≡ view t) ⊎ TraceBy c (view t) (view (perform (call_rows c) t).tables)
unfolding perform
traces-or-same c t = shown Denied (on_row_call c) (λ _ s. (s ≡ view t) ⊎ TraceBy c (view t) s) t (λ r w. rows_whole r w c) (λ _. inl refl)
    (λ w g e. inr (ok_at (λ (g : Given Reply). TraceBy c (view t) g.rows) _ (rows-trace (view t) w.numbers c) g e))

-- The call

pub taken-late : (t : Tables) → broken t ≡ false → (view t).trace ≡ [] → perform call_take_back t ≡ done (Denied (Word word_late)) t
unfolding perform carried taken_back
taken-late t h e = wrap-carried Denied (on_row_call row_take_back) t h ∙ ap (λ (ls : List Level). carried Denied t (taken_back ls (view t))) e

taken-done : (t : Tables) → broken t ≡ false → (l : Level) (ls : List Level) → (view t).trace ≡ l ∷ ls → perform call_take_back t ≡ done Accepted (put (with_trace ls (cut_to l (view t))) t)
unfolding perform carried taken_back
taken-done t h l ls e = wrap-carried Denied (on_row_call row_take_back) t h ∙ ap (λ (ls : List Level). carried Denied t (taken_back ls (view t))) e

-- accepted where there is a load: the rows are cut to its level
pub taken-accepted : (t : Tables) → broken t ≡ false → (l : Level) (ls : List Level) → (view t).trace ≡ l ∷ ls
    → ((perform call_take_back t).answer ≡ Accepted) × (view (perform call_take_back t).tables ≡ with_trace ls (cut_to l (view t)))
unfolding taken_back
taken-accepted t h l ls e =
    let d = taken-done t h l ls e in
    let u = broken-false t h in
    let k = ok_at Unhurt _ (rows_whole (view t) u.1 row_take_back u.2) (record { answer = Accepted; rows = with_trace ls (cut_to l (view t)) })
    (ap (λ (ls : List Level). taken_back ls (view t)) e) in
    (ap (λ (x : Done Reply). x.answer) d, ap (λ (x : Done Reply). view x.tables) d ∙ view-put (with_trace ls (cut_to l (view t))) t u.0 k.0)

-- and only there
pub taken-back : (t : Tables) → (perform call_take_back t).answer ≡ Accepted → TakesBack (view t) (view (perform call_take_back t).tables)
unfolding perform
taken-back t = shown Denied (on_row_call row_take_back) (λ a s. a ≡ Accepted → TakesBack (view t) s) t (λ r w. rows_whole r w row_take_back)
    (λ w e. let z : ◌≡◌ {A = ℕ} 0 1 = cc in absurd (omega arith))
    (λ w g e _. ok_at (λ (g : Given Reply). TakesBack (view t) g.rows) _ (rows-trace (view t) w.numbers row_take_back) g e)

-- One load

-- a load that changed the store is taken back: every row reads as before it, and the trace is what it was, but for a load that was pushed out
loaded-remembers : (c : Load) (t : Tables) → (view (perform (call_rows (load_call c)) t).tables ≡ view t → ⊥) → Remembers (view t) (view (perform (call_rows (load_call c)) t).tables)
loaded-remembers c t n = elim (traces-or-same (load_call c) t) [ inl e ↦ absurd (n e) | inr h ↦ go c n h ]
  where
    go : (c : Load) → (view (perform (call_rows (load_call c)) t).tables ≡ view t → ⊥) → TraceBy (load_call c) (view t) (view (perform (call_rows (load_call c)) t).tables)
        → Remembers (view t) (view (perform (call_rows (load_call c)) t).tables)
    go (load_define l bs) n h = h
    go (load_record l x d) n (inl e) = absurd (n e)
    go (load_record l x d) n (inr h) = h

pub load-undone : (c : Load) (t : Tables) → broken t ≡ false → (view (perform (call_rows (load_call c)) t).tables ≡ view t → ⊥)
    → (let u = (perform (call_rows (load_call c)) t).tables in
    ((perform call_take_back u).answer ≡ Accepted) × (view (perform call_take_back u).tables ≡ with_trace (take 31 (view t).trace) (view t)))
load-undone c t h n =
    let u : Tables = (perform (call_rows (load_call c)) t).tables in
    let m = loaded-remembers c t n in
    let a = taken-accepted u (kept-unbroken (call_rows (load_call c)) t h) (level_of (view t)) (take 31 (view t).trace) m.trace in
    (a.0, a.1 ∙ ap (with_trace (take 31 (view t).trace)) (cut_load (view t) (view u) m.loads))

-- Many loads

-- from r to s by loads that changed the rows: those before each, the latest first
abbrev pub Loading : Rows → List Rows → Rows → Type 0
Loading r [] s = s ≡ r
Loading r (q ∷ qs) s = Loading r qs q × Remembers q s

-- the rows before the last n of them
abbrev pub before_last : ℕ → Rows → List Rows → Rows
before_last n s [] = s
before_last zero s (q ∷ qs) = s
before_last (suc n) s (q ∷ qs) = before_last n q qs

abbrev pub takings : ℕ → List Call
takings n = replicate n call_take_back

-- where at most m can be taken back
taken-rows : (n m : ℕ) (qs : List Rows) (r s : Rows) → n ≤ m → m ≤ 32 → n ≤ length qs → Loading r qs s
    → perform_all_rows (takings n) (with_trace (take m s.trace) s)
    ≡ given_rows (replicate n Accepted) (with_trace (take (m - n) (before_last n s qs).trace) (before_last n s qs))
unfolding perform_all_rows perform_rows on_rows settle taken_back cut_to
taken-rows zero m [] r s a b c h = let z : m - 0 ≡ m = omega arith in rw z
taken-rows zero m (q ∷ qs) r s a b c h = let z : m - 0 ≡ m = omega arith in rw z
taken-rows (suc n) m [] r s a b c h = absurd (omega arith)
taken-rows (suc n) zero (q ∷ qs) r s a b c h = absurd (omega arith)
taken-rows (suc n) (suc m) (q ∷ qs) r s a b c h =
    let front : take (suc m) s.trace ≡ level_of q ∷ take m q.trace = ap (take (suc m)) h.1.trace ∙ take-take (suc m) 32 (level_of q ∷ q.trace) b in
    let e : cut_to (level_of q) s ≡ with_trace s.trace q = cut_load q s h.1.loads in
    let one : perform_rows call_take_back (with_trace (take (suc m) s.trace) s) ≡ given_rows Accepted (with_trace (take m q.trace) q) =
    ap (λ (ls : List Level). settle Denied (with_trace (take (suc m) s.trace) s) (taken_back ls (with_trace (take (suc m) s.trace) s))) front
    ∙ ap (λ (z : Rows). given_rows Accepted (with_trace (take m q.trace) z)) e in
    let z : suc m - suc n ≡ m - n = omega arith in
    ap (λ (g : Given Reply). let d = perform_all_rows (takings n) g.rows in given_rows (g.answer ∷ d.answer) d.rows) one
    ∙ (ap (λ (g : Given (List Reply)). given_rows (Accepted ∷ g.answer) g.rows) (taken-rows n m qs r q (omega arith) (omega arith) (omega arith) h.0)
    ∙ ap (λ (j : ℕ). given_rows (Accepted ∷ replicate n Accepted) (with_trace (take j (before_last n q qs).trace) (before_last n q qs))) (sym z))

-- from any tables: n of them, of the last 32
module _ (r : Rows) (qs : List Rows) (s : Tables) (h : broken s ≡ false) (l : Loading r qs (view s)) (n : ℕ) (few : n ≤ 32) (many : n ≤ length qs) where
  abbrev taken : Tables
  taken = (perform_all (takings n) s).tables

  all_left : with_trace (take 32 (view s).trace) (view s) ≡ view s
  all_left = ap (λ (ls : List Level). with_trace ls (view s)) (take_all 32 (view s).trace (broken-false s h).1.limits.trace)

  takings-rows : perform_all_rows (takings n) (view s) ≡ given_rows (replicate n Accepted) (with_trace (take (32 - n) (before_last n (view s) qs).trace) (before_last n (view s) qs))
  takings-rows = ap (perform_all_rows (takings n)) (sym all_left) ∙ taken-rows n 32 qs r (view s) few (omega arith) many l

  takings-same : Same (perform_all (takings n) s).answer taken (perform_all_rows (takings n) (view s))
  takings-same = same-all (takings n) s (view s) (record { unbroken = h; rows = refl })

  pub takings-answer : (perform_all (takings n) s).answer ≡ replicate n Accepted
  takings-answer = takings-same.0 ∙ ap (λ (g : Given (List Reply)). g.answer) takings-rows

  pub takings-show : view taken ≡ with_trace (take (32 - n) (before_last n (view s) qs).trace) (before_last n (view s) qs)
  takings-show = takings-same.1.rows ∙ ap (λ (g : Given (List Reply)). g.rows) takings-rows

before-all : (r : Rows) (qs : List Rows) (s : Rows) → Loading r qs s → before_last (length qs) s qs ≡ r
before-all r [] s h = h
before-all r (q ∷ qs) s h = before-all r qs q h.0

-- Calls that close what came before them, on the tables that they find, and lists of calls of which none does

-- a step that ran or finished
abbrev pub WentOn : Answer → Type 0
WentOn Idle = ⊥
WentOn (Ran k) = Unit {0}
WentOn (Finished k n) = Unit {0}
WentOn (Refused w) = ⊥

abbrev pub ClosesRows : RowCall → Tables → Type 0
ClosesRows (row_define l bs) t = ⊥
ClosesRows (row_record l n c) t = ⊥
ClosesRows (row_start k l n m v) t = refusal (perform (call_rows (row_start k l n m v)) t).answer ≡ none
ClosesRows (row_drop k) t = refusal (perform (call_rows (row_drop k)) t).answer ≡ none
ClosesRows row_sweep t = refusal (perform (call_rows row_sweep) t).answer ≡ none
ClosesRows (row_try c n) t = ⊥
ClosesRows row_take_back t = ⊥

abbrev pub Closes : Call → Tables → Type 0
Closes call_boot t = refusal (perform call_boot t).answer ≡ none
Closes (call_rows c) t = ClosesRows c t
Closes call_step t = WentOn (step_tables t).answer
Closes (call_run n) t = (refusal (perform (call_run n) t).answer ≡ none) × WentOn (step_tables t).answer

-- none closes, and none is a taking back
abbrev pub Open : List Call → Tables → Type 0
Open [] t = Unit {0}
Open (c ∷ cs) t = (Closes c t → ⊥) × (Unloads c → ⊥) × Open cs (perform c t).tables

refused-left : (c : Call) (t : Tables) → (refusal (perform c t).answer ≡ none → (perform c t).tables ≡ t) → Loaded (view t) (view (perform c t).tables)
refused-left c t n = go (refusal (perform c t).answer) refl
  where
    go : (o : Option Refusal) → refusal (perform c t).answer ≡ o → Loaded (view t) (view (perform c t).tables)
    go none e = inl (ap view (n e))
    go (some w) e = inl (ap view (refused-same c t w e).same)

open-rows : (c : RowCall) (t : Tables) → (ClosesRows c t → ⊥) → (UnloadsRows c → ⊥) → Loaded (view t) (view (perform (call_rows c) t).tables)
open-rows (row_define l bs) t n i = elim (traces-or-same (row_define l bs) t) [ inl e ↦ inl e | inr h ↦ inr h ]
open-rows (row_record l x c) t n i = elim (traces-or-same (row_record l x c) t) [ inl e ↦ inl e | inr h ↦ h ]
open-rows (row_start k l x m v) t n i = refused-left (call_rows (row_start k l x m v)) t (λ e. absurd (n e))
open-rows (row_drop k) t n i = refused-left (call_rows (row_drop k)) t (λ e. absurd (n e))
open-rows row_sweep t n i = refused-left (call_rows row_sweep) t (λ e. absurd (n e))
open-rows (row_try c x) t n i = elim (traces-or-same (row_try c x) t) [ inl e ↦ inl e | inr e ↦ inl e ]
open-rows row_take_back t n i = absurd (i tt)

step_left : (t : Tables) → (WentOn (step_tables t).answer → ⊥) → (step_tables t).tables ≡ t
step_left t n = go (step_tables t).answer refl n
  where
    go : (a : Answer) → (step_tables t).answer ≡ a → (WentOn a → ⊥) → (step_tables t).tables ≡ t
    go Idle e n = idle-same t e
    go (Ran k) e n = absurd (n tt)
    go (Finished k m) e n = absurd (n tt)
    go (Refused w) e n = (step-refused t w e).same

run-left : (n : ℕ) (t : Tables) → (Closes (call_run n) t → ⊥) → (perform (call_run n) t).tables ≡ t
run-left n t x = go (refusal (perform (call_run n) t).answer) refl
  where
    go : (o : Option Refusal) → refusal (perform (call_run n) t).answer ≡ o → (perform (call_run n) t).tables ≡ t
    go (some w) e = (refused-same (call_run n) t w e).same
    go none e = unfold perform in run-keeps (λ s. s ≡ t) (λ s q. ap (λ (z : Tables). (step_tables z).tables) q ∙ step_left t (λ y. x (e, y))) n t refl

open-call : (c : Call) (t : Tables) → (Closes c t → ⊥) → (Unloads c → ⊥) → Loaded (view t) (view (perform c t).tables)
open-call call_boot t n i = absurd (i tt)
open-call (call_rows c) t n i = open-rows c t n i
open-call call_step t n i = unfold perform in inl (ap view (step_left t n))
open-call (call_run m) t n i = inl (ap view (run-left m t n))

loading-first : (r q : Rows) (qs : List Rows) (s : Rows) → Remembers r q → Loading q qs s → Loading r (qs ++ (r ∷ [])) s
loading-first r q [] s m h = (refl, subst (Remembers r) (sym h) m)
loading-first r q (p ∷ qs) s m h = (loading-first r q qs p m h.0, h.1)

-- whether the call is a load that changed the rows: it added to the cache; and how many of a list of calls are
abbrev pub adds : Call → Tables → Bool
adds c t = ltb (length (view t).cache) (length (view (perform c t).tables).cache)

abbrev pub loads_in : List Call → Tables → ℕ
loads_in [] t = 0
loads_in (c ∷ cs) t = elim (adds c t) as (λ _. ℕ) [ true ↦ suc (loads_in cs (perform c t).tables) | false ↦ loads_in cs (perform c t).tables ]

-- such calls are loads that changed the rows, and calls that changed nothing
pub open-adds : (c : Call) (t : Tables) → (Closes c t → ⊥) → (Unloads c → ⊥)
    → ((adds c t ≡ false) × (view (perform c t).tables ≡ view t)) ⊎ ((adds c t ≡ true) × Remembers (view t) (view (perform c t).tables))
open-adds c t n i = elim (open-call c t n i) [
  | inl e ↦ inl (ap (λ (r : Rows). ltb (length (view t).cache) (length r.cache)) e ∙ le-ltb (length (view t).cache) (length (view t).cache) (omega arith), e)
  | inr m ↦ inr (lt-ltb (length (view t).cache) (length (view (perform c t).tables).cache) m.more, m)
]

open-loads : (cs : List Call) (t : Tables) → Open cs t → (qs : List Rows) × (length qs ≡ loads_in cs t) × Loading (view t) qs (view (perform_all cs t).tables)
unfolding perform_all
open-loads [] t o = ([], refl, refl)
open-loads (c ∷ cs) t o =
    let l = open-loads cs (perform c t).tables o.2 in
    let s : Rows = view (perform_all cs (perform c t).tables).tables in
    elim (open-adds c t o.0 o.1) [
      | inl e ↦ (l.0, l.1 ∙ sym (rw (e.0, loads_in) refl), subst (λ (r : Rows). Loading r l.0 s) e.1 l.2)
      | inr m ↦ (
        l.0 ++ (view t ∷ []),
        length-append l.0 (view t ∷ []) ∙ (plus_one (length l.0) ∙ (ap suc l.1 ∙ sym (rw (m.0, loads_in) refl))),
        loading-first (view t) (view (perform c t).tables) l.0 s m.1 l.2,
      )
    ]
  where
    plus_one : (n : ℕ) → n + 1 ≡ suc n
    plus_one n = omega arith

pub all-unbroken : (cs : List Call) (t : Tables) → broken t ≡ false → broken (perform_all cs t).tables ≡ false
unfolding perform_all
all-unbroken [] t h = h
all-unbroken (c ∷ cs) t h = all-unbroken cs (perform c t).tables (kept-unbroken c t h)

-- The statements: k loads that changed the rows, and among them any calls that close nothing

-- k takings back are accepted and leave the rows as they were, where k is at most 32
pub loads-undone : (cs : List Call) (t : Tables) → broken t ≡ false → Open cs t
    → (let s = (perform_all cs t).tables in let k = loads_in cs t in
    k ≤ 32 → ((perform_all (takings k) s).answer ≡ replicate k Accepted) × (view (perform_all (takings k) s).tables ≡ with_trace (take (32 - k) (view t).trace) (view t)))
loads-undone cs t h o few = subst Undone l.1 here (omega (arith, l.1, few))
  where
    s : Tables
    s = (perform_all cs t).tables

    l : (qs : List Rows) × (length qs ≡ loads_in cs t) × Loading (view t) qs (view s)
    l = open-loads cs t o

    Undone : ℕ → Type 0
    Undone k = k ≤ 32 → ((perform_all (takings k) s).answer ≡ replicate k Accepted) × (view (perform_all (takings k) s).tables ≡ with_trace (take (32 - k) (view t).trace) (view t))

    here : Undone (length l.0)
    here f =
        let b = all-unbroken cs t h in
        let e : before_last (length l.0) (view s) l.0 ≡ view t = before-all (view t) l.0 (view s) l.2 in (
          takings-answer (view t) l.0 s b l.2 (length l.0) f (omega arith),
          takings-show (view t) l.0 s b l.2 (length l.0) f (omega arith) ∙ ap (λ (r : Rows). with_trace (take (32 - length l.0) r.trace) r) e,
        )

-- where k is 32 the next is too late, whatever was loaded before: what they pushed out never returns
pub loads-lost : (cs : List Call) (t : Tables) → broken t ≡ false → Open cs t → loads_in cs t ≡ 32
    → (let s = (perform_all cs t).tables in let u = (perform_all (takings 32) s).tables in
    ((perform_all (takings 32) s).answer ≡ replicate 32 Accepted) × (view u ≡ with_trace [] (view t)) × (perform call_take_back u ≡ done (Denied (Word word_late)) u))
loads-lost cs t h o k =
    let s : Tables = (perform_all cs t).tables in
    let u : Tables = (perform_all (takings 32) s).tables in
    let d = subst Undone k (loads-undone cs t h o) (omega arith) in
    (d.0, d.1, taken-late u (all-unbroken (takings 32) s (all-unbroken cs t h)) (ap (λ (r : Rows). r.trace) d.1))
  where
    Undone : ℕ → Type 0
    Undone k =
        let s = (perform_all cs t).tables in
        k ≤ 32 → ((perform_all (takings k) s).answer ≡ replicate k Accepted) × (view (perform_all (takings k) s).tables ≡ with_trace (take (32 - k) (view t).trace) (view t))

-- The tables

-- no table but the counts changes, in any cell, and of the counts no cell but the first five, that of loads and the groups of the ties left
pub record BackLeaves (t u : Tables) : Type 0 where
  pub counts : (j : ℕ) → 5 ≤ j → j < groups_cell → j ≢ loads_cell → get_or u.counts j 0 ≡ get_or t.counts j 0
  pub groups : (j : ℕ) → groups_cell + count_at u count_ties ≤ j → get_or u.counts j 0 ≡ get_or t.counts j 0
  pub classes : u.classes ≡ t.classes
  pub kept : u.kept ≡ t.kept
  pub cache : u.cache ≡ t.cache
  pub ties : u.ties ≡ t.ties
  pub subtypes : u.subtypes ≡ t.subtypes
  pub objects : u.objects ≡ t.objects
  pub frames : u.frames ≡ t.frames

five-counts : (c : List ℕ) (l : Level) (n j : ℕ) → 5 ≤ j → j ≢ loads_cell
    → get_or (set (set (set (set (set (set c 0 l.classes) 1 l.kept) 2 l.cache) 3 l.ties) 4 l.subtypes) loads_cell n) j 0 ≡ get_or c j 0
five-counts c l n j h e =
    let c1 : List ℕ = set c 0 l.classes in
    let c2 : List ℕ = set c1 1 l.kept in
    let c3 : List ℕ = set c2 2 l.cache in
    let c4 : List ℕ = set c3 3 l.ties in
    let c5 : List ℕ = set c4 4 l.subtypes in
    get_or-set_other c5 loads_cell j n 0 e
    ∙ (get_or-set_other c4 4 j l.subtypes 0 (λ z. omega arith)
    ∙ (get_or-set_other c3 3 j l.ties 0 (λ z. omega arith)
    ∙ (get_or-set_other c2 2 j l.cache 0 (λ z. omega arith) ∙ (get_or-set_other c1 1 j l.kept 0 (λ z. omega arith) ∙ get_or-set_other c 0 j l.classes 0 (λ z. omega arith)))))

back-written : (t : Tables) → broken t ≡ false → (n : ℕ) (l : Level) → Under l (view t)
    → put (with_trace (stack (level_at t.counts) n) (cut_to l (view t))) t
    ≡ tables
    (put_groups (rows (tie_at t.ties) l.ties 0) (rows (number_at tie_numbers_cell t.counts) l.ties 0)
    (set (set (set (set (set (set t.counts 0 l.classes) 1 l.kept) 2 l.cache) 3 l.ties) 4 l.subtypes) loads_cell n))
    t.classes t.kept t.cache t.ties t.subtypes t.objects t.frames
unfolding view view_over
back-written t h n l v =
    back-writes (view_base t) t n l (omega (arith, v.classes, (classes-fill t).count)) (omega (arith, v.kept, (kept-fill t).count)) (omega (arith, v.cache, (cache-fill t).count))
    (omega (arith, v.ties, (ties-fill t).count)) (omega (arith, v.subtypes, (subtypes-fill t).count)) (unbroken t h).counts.ties

trace-read : (t : Tables) (n : ℕ) → count_at t loads_cell ≡ n → (view t).trace ≡ stack (level_at t.counts) n
trace-read t n e = unfold view view_over in ap (stack (level_at t.counts)) e

-- where there is a load: the five counts of its level, one load less, and the groups of the ties left, made anew
pub taken-written : (t : Tables) → broken t ≡ false → (n : ℕ) → count_at t loads_cell ≡ suc n
    → (let l = level_at t.counts n in perform call_take_back t
    ≡ done Accepted (tables
    (put_groups (rows (tie_at t.ties) l.ties 0) (rows (number_at tie_numbers_cell t.counts) l.ties 0)
    (set (set (set (set (set (set t.counts 0 l.classes) 1 l.kept) 2 l.cache) 3 l.ties) 4 l.subtypes) loads_cell n))
    t.classes t.kept t.cache t.ties t.subtypes t.objects t.frames))
taken-written t h n e =
    let l : Level = level_at t.counts n in
    let here : (view t).trace ≡ l ∷ stack (level_at t.counts) n = trace-read t (suc n) e ∙ (unfold stack in refl) in
    let b : EachTurn Leaves (l ∷ stack (level_at t.counts) n) (view t) = subst (λ ls. EachTurn Leaves ls (view t)) here (broken-false t h).2 in
    taken-done t h l (stack (level_at t.counts) n) here ∙ ap (done Accepted) (back-written t h n l b.0.0)

left_alone : (t : Tables) → BackLeaves t t
left_alone t = record { counts = λ j l g e. refl; groups = λ j l. refl; classes = refl; kept = refl; cache = refl; ties = refl; subtypes = refl; objects = refl; frames = refl }

pub taken-tables : (t : Tables) → broken t ≡ false → BackLeaves t (perform call_take_back t).tables
taken-tables t h = go (count_at t loads_cell) refl
  where
    back : Level → ℕ → List ℕ
    back l n = set (set (set (set (set (set t.counts 0 l.classes) 1 l.kept) 2 l.cache) 3 l.ties) 4 l.subtypes) loads_cell n

    three-set : (l : Level) → length (set (set (set t.counts 0 l.classes) 1 l.kept) 2 l.cache) ≡ length t.counts
    three-set l = simp length-set

    ties-left : (l : Level) (n : ℕ) → get_or (back l n) count_ties 0 ≡ l.ties
    ties-left l n =
        let c3 : List ℕ = set (set (set t.counts 0 l.classes) 1 l.kept) 2 l.cache in
        let c4 : List ℕ = set c3 3 l.ties in
        let c5 : List ℕ = set c4 4 l.subtypes in
        get_or-set_other c5 loads_cell 3 n 0 (λ e. omega arith)
        ∙ (get_or-set_other c4 4 3 l.subtypes 0 (λ e. omega arith) ∙ get_or-set_same c3 3 l.ties 0 (omega (arith, (broken-false t h).0.counts, three-set l)))

    go : (n : ℕ) → count_at t loads_cell ≡ n → BackLeaves t (perform call_take_back t).tables
    go zero e = subst (BackLeaves t) (sym (ap (λ (d : Done Reply). d.tables) (taken-late t h (trace-read t 0 e ∙ (unfold stack in refl))))) (left_alone t)
    go (suc n) e =
        let l : Level = level_at t.counts n in
        let ts : List Tie = rows (tie_at t.ties) l.ties 0 in
        let ns : List ℕ = rows (number_at tie_numbers_cell t.counts) l.ties 0 in
        subst (BackLeaves t) (sym (ap (λ (d : Done Reply). d.tables) (taken-written t h n e)))
        (record {
          counts = λ j g m z. put_groups-before ts ns (back l n) j m ∙ five-counts t.counts l n j g z;
          groups = λ j m.
              put_groups-behind ts ns (back l n) j (omega (arith, rows-length (tie_at t.ties) l.ties 0, put_groups-before ts ns (back l n) count_ties (omega arith) ∙ ties-left l n, m)) ∙ five-counts t.counts l n j (omega arith) (λ e. omega arith);
          classes = refl;
          kept = refl;
          cache = refl;
          ties = refl;
          subtypes = refl;
          objects = refl;
          frames = refl;
        })

-- Too late

-- after a call that closes, nothing can be taken back
went-closes : (r : Rows) → Ok (step_rows r) (λ g. WentOn g.answer → g.rows.trace ≡ [])
unfolding step_rows
went-closes r = go r.quote r.report
  where
    S : Given Answer → Type 0
    S g = WentOn g.answer → g.rows.trace ≡ []

    task : (k : ℕ) (f : Frame) (fs : List Frame) → Ok (step_task k (world_of r) f fs r) S
    task k f fs = unfold step_task in then S _ _ (λ _ _ _. refl)

    go : (q p : List Frame) → Ok (step_on q p (world_of r) r) S
    go (f ∷ fs) p = unfold step_on in task 0 f fs
    go [] (f ∷ fs) = unfold step_on in task 1 f fs
    go [] [] = unfold step_on in λ n. absurd n

step-closed : (t : Tables) → WentOn (step_tables t).answer → (view (step_tables t).tables).trace ≡ []
unfolding step_tables
step-closed t = shown Refused step_rows (λ a s. WentOn a → s.trace ≡ []) t step-whole (λ w n. absurd n)
    (λ w g e. ok_at (λ (g : Given Answer). WentOn g.answer → g.rows.trace ≡ []) _ (went-closes (view t)) g e)

step-or-same : (t : Tables) → (view (step_tables t).tables ≡ view t) ⊎ ((view (step_tables t).tables).trace ≡ [])
unfolding step_tables
step-or-same t = shown Refused step_rows (λ _ s. (s ≡ view t) ⊎ (s.trace ≡ [])) t step-whole (λ _. inl refl)
    (λ w g e. ok_at (λ (g : Given Answer). (g.rows ≡ view t) ⊎ (g.rows.trace ≡ [])) _ (step-trace (view t)) g e)

stays_closed : (t : Tables) → (view t).trace ≡ [] → (view (step_tables t).tables).trace ≡ []
stays_closed t e = elim (step-or-same t) [ inl s ↦ ap (λ (r : Rows). r.trace) s ∙ e | inr s ↦ s ]

-- a call that isn't refused found tables that aren't broken
accepted-unbroken : (c : RowCall) (t : Tables) → refusal (perform (call_rows c) t).answer ≡ none → broken t ≡ false
unfolding perform
accepted-unbroken c t a = go (broken t) refl
  where
    go : (b : Bool) → broken t ≡ b → broken t ≡ false
    go false e = e
    go true e = absurd (none-ne-some (Word 1) (sym a ∙ ap (λ (d : Done Reply). refusal d.answer) (wrap-broken Denied (on_row_call c) t e)))

went-unbroken : (t : Tables) → WentOn (step_tables t).answer → broken t ≡ false
unfolding step_tables
went-unbroken t w = go (broken t) refl
  where
    go : (b : Bool) → broken t ≡ b → broken t ≡ false
    go false e = e
    go true e = absurd (subst WentOn (ap (λ (d : Done Answer). d.answer) (wrap-broken Refused step_rows t e)) w)

-- a run whose first step goes on
run-closed : (n : ℕ) (t : Tables) → refusal (perform (call_run n) t).answer ≡ none → WentOn (step_tables t).answer → (view (perform (call_run n) t).tables).trace ≡ []
unfolding perform run run_from
run-closed n t a w = let h = went-unbroken t w in rw (h, run) (go n (leb 1 n && leb n 65535) refl (rw (h, run) at a))
  where
    runs : (n k : ℕ) (a : Answer) (t : Tables) → (view t).trace ≡ [] → (view (run_from step_tables n k a t).tables).trace ≡ []
    runs n k a t e = (runs-end step_tables (λ s. (view s).trace ≡ []) (λ _ s. (view s).trace ≡ []) (λ s i. stays_closed s i) (λ s _ i _. stays_closed s i) n k a t e e).holds

    from : (n : ℕ) (a : Answer) (s : Tables) → WentOn a → (view s).trace ≡ [] → (view (go_on (run_from step_tables n) 0 a s).tables).trace ≡ []
    from n Idle s w e = absurd w
    from n (Ran k) s w e = runs n 1 (Ran k) s e
    from n (Finished k v) s w e = e
    from n (Refused x) s w e = absurd w

    D : ℕ → Bool → Done Reply
    D n b = elim b as (λ _. Done Reply) [ true ↦ run_from step_tables n 0 Idle t | false ↦ done (Denied (Word 3)) t ]

    go : (n : ℕ) (b : Bool) → leb 1 n && leb n 65535 ≡ b → refusal (D n b).answer ≡ none → (view (D n b).tables).trace ≡ []
    go zero true l a = absurd (false≢true l)
    go (suc n) true l a = from n (step_tables t).answer (step_tables t).tables w (step-closed t w)
    go n false l a = absurd (none-ne-some (Word 3) (sym a))

-- What each call does to the trace. A refused one changes nothing (`refused-same`).

-- a call on rows that is accepted
pub call-traces : (c : RowCall) (t : Tables) → refusal (perform (call_rows c) t).answer ≡ none → TraceBy c (view t) (view (perform (call_rows c) t).tables)
unfolding perform
call-traces c t = shown Denied (on_row_call c) (λ a s. refusal a ≡ none → TraceBy c (view t) s) t (λ r w. rows_whole r w c) (λ w e. absurd (none-ne-some w (sym e)))
    (λ w g e _. ok_at (λ (g : Given Reply). TraceBy c (view t) g.rows) _ (rows-trace (view t) w.numbers c) g e)

-- a step that ran or finished closes, and any other leaves every cell; a run goes by its first step
pub step-traces : (t : Tables) → (WentOn (step_tables t).answer → (view (step_tables t).tables).trace ≡ []) × ((WentOn (step_tables t).answer → ⊥) → (step_tables t).tables ≡ t)
step-traces t = (step-closed t, step_left t)

pub run-traces : (n : ℕ) (t : Tables)
    → (Closes (call_run n) t → (view (perform (call_run n) t).tables).trace ≡ []) × ((Closes (call_run n) t → ⊥) → (perform (call_run n) t).tables ≡ t)
run-traces n t = ((λ x. run-closed n t x.0 x.1), run-left n t)

-- after a call that closes no load is left; no tables are too broken to boot
pub closes-all : (c : Call) (t : Tables) → Closes c t → (broken (perform c t).tables ≡ false) × ((view (perform c t).tables).trace ≡ [])
closes-all c t x = go c x
  where
    Shut : Tables → Type 0
    Shut s = (broken s ≡ false) × ((view s).trace ≡ [])

    row : (c : RowCall) → refusal (perform (call_rows c) t).answer ≡ none → (view (perform (call_rows c) t).tables).trace ≡ [] → Shut (perform (call_rows c) t).tables
    row c a e = (kept-unbroken (call_rows c) t (accepted-unbroken c t a), e)

    rows : (c : RowCall) → ClosesRows c t → Shut (perform (call_rows c) t).tables
    rows (row_define l bs) x = absurd x
    rows (row_record l n c) x = absurd x
    rows (row_start k l n m v) x = row (row_start k l n m v) x (call-traces (row_start k l n m v) t x)
    rows (row_drop k) x = row (row_drop k) x (call-traces (row_drop k) t x)
    rows row_sweep x = row row_sweep x (call-traces row_sweep t x)
    rows (row_try c n) x = absurd x
    rows row_take_back x = absurd x

    booted : (b : Bool) → shaped t ≡ b → refusal (boot t).answer ≡ none → Shut (boot t).tables
    booted true s a = let d = (same-boot t s).1 in (d.unbroken, ap (λ (r : Rows). r.trace) d.rows)
    booted false s a = absurd (none-ne-some (Word 1) (sym a ∙ (unfold boot in rw (s, boot) refl)))

    go : (c : Call) → Closes c t → Shut (perform c t).tables
    go call_boot x = unfold perform in booted (shaped t) refl (unfold perform in x)
    go (call_rows c) x = rows c x
    go call_step x = (kept-unbroken call_step t (went-unbroken t x), unfold perform in step-closed t x)
    go (call_run n) x = (kept-unbroken (call_run n) t (went-unbroken t x.1), run-closed n t x.0 x.1)

-- so nothing can be taken back
pub closed-late : (c : Call) (t : Tables) → Closes c t → perform call_take_back (perform c t).tables ≡ done (Denied (Word word_late)) (perform c t).tables
closed-late c t x = let e = closes-all c t x in taken-late (perform c t).tables e.0 e.1

-- Word 1's test of the trace in words: each of the loads, the latest first, finds its rows where those before it were taken back, and leaves whole rows

-- the rows where i loads were taken back
abbrev pub back_by : ℕ → List Level → Rows → Rows
back_by zero ls r = r
back_by (suc i) [] r = r
back_by (suc i) (l ∷ ls) r = back_by i ls (cut_to l r)

abbrev pub InTurn : List Level → Rows → Type 0
InTurn ls r = (i : ℕ) (l : Level) → get_elem? ls i ≡ some l → Under l (back_by i ls r) × Whole (cut_to l (back_by i ls r))

turns-words : (ls : List Level) (r : Rows) → Whole r → EachTurn Leaves ls r → InTurn ls r
turns-words [] r w h i l e = absurd (none-ne-some l e)
turns-words (m ∷ ls) r w h zero l e =
    subst (λ (l : Level). Under l r × Whole (cut_to l r)) (some-injective m l e) (h.0.0, cut-whole m r h.0.1 h.0.0 w)
turns-words (m ∷ ls) r w h (suc i) l e = turns-words ls (cut_to m r) (cut-whole m r h.0.1 h.0.0 w) h.1 i l e

words-turns : (ls : List Level) (r : Rows) → InTurn ls r → EachTurn Leaves ls r
words-turns [] r h = tt
words-turns (m ∷ ls) r h = let a = h 0 m refl in ((a.0, whole-sound (cut_to m r) a.1), words-turns ls (cut_to m r) (λ i l e. h (suc i) l e))

pub trace-words : (r : Rows) → Whole r → trace_fits r.trace r ≡ true → InTurn r.trace r
trace-words r w h = turns-words r.trace r w (fits-trace r.trace r h)

pub words-trace : (r : Rows) → InTurn r.trace r → trace_fits r.trace r ≡ true
words-trace r h = trace-fits r.trace r (words-turns r.trace r h)
