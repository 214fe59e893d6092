-- Taking back, for every list of calls from a boot (paper 10): beside the store runs a list of the rows before each load that can be taken back, at most 32,
-- the latest first. A load that changed the store puts the rows before it in front, and of 33 the oldest is lost for good; a taking back takes the first away; a
-- call that closes empties the list; nothing else touches it. A taking back gives just the first of the list, and where it is empty it is too late.
use Rattle.std.specs.Prelude.{◌≡◌, refl, true, false, List, [], ◌∷◌, map, ◌⊎◌, ℕ, zero, suc, length, take}
use Rattle.std.proofs.Common.{sym, ◌∙◌, subst, inl, inr, arith}
use Rattle.std.proofs.Math.Path.{ap}
use Rattle.std.proofs.Math.Option.{Option, none, some}
use Rattle.definition.specs.declared.Refusal.{Refusal}
use Rattle.definition.specs.declared.Refusal.TheVariants.{Word}
use Rattle.definition.specs.declared.Answer.{Answer}
use Rattle.definition.specs.declared.Answer.TheVariants.{Idle, Ran, Finished, Refused}
use Rattle.definition.specs.declared.Reply.TheVariants.{Accepted, Denied}
use Rattle.definition.specs.Numbers.{word_late, trace_limit}
use Rattle.definition.specs.Tables.{Tables, Level, Rows, level_of, cut_to, with_trace, view}
use Rattle.definition.specs.Broken.{broken}
use Rattle.definition.specs.Calls.{done, boot, RowCall, row_define, row_record, row_start, row_drop, row_sweep, row_try, row_take_back, Call, call_boot, call_rows, call_step, call_run, call_take_back, step_tables, perform, perform_all}
use Rattle.laws.specs.Refused.{refusal, refused-same}
use Rattle.layout.specs.Traced.{cut_load}
use Rattle.unbroken.specs.OnRows.{accepted-shaped, same-boot}
use Rattle.unbroken.specs.Traces.{Remembers, TakesBack}
use Rattle.unbroken.specs.TakenBack.{taken-late, taken-accepted, adds, open-adds, WentOn, Closes, call-traces, step-traces, run-traces, closes-all, all-unbroken}

-- The list, after a call on the tables that it found

abbrev pub loaded : Call → Tables → List Rows → List Rows
loaded c t h = elim (adds c t) as (λ _. List Rows) [ true ↦ take trace_limit (view t ∷ h) | false ↦ h ]

-- if the call is accepted, by what it answered
abbrev pub if_taken : Option Refusal → List Rows → List Rows → List Rows
if_taken none a h = a
if_taken (some w) a h = h

abbrev pub rest : List Rows → List Rows
rest [] = []
rest (q ∷ qs) = qs

abbrev pub stepped : Answer → List Rows → List Rows
stepped Idle h = h
stepped (Ran k) h = []
stepped (Finished k n) h = []
stepped (Refused w) h = h

abbrev pub after_rows : RowCall → Tables → List Rows → List Rows
after_rows (row_define l bs) t h = loaded (call_rows (row_define l bs)) t h
after_rows (row_record l n c) t h = loaded (call_rows (row_record l n c)) t h
after_rows (row_start k l n m v) t h = if_taken (refusal (perform (call_rows (row_start k l n m v)) t).answer) [] h
after_rows (row_drop k) t h = if_taken (refusal (perform (call_rows (row_drop k)) t).answer) [] h
after_rows row_sweep t h = if_taken (refusal (perform (call_rows row_sweep) t).answer) [] h
after_rows (row_try c n) t h = h
after_rows row_take_back t h = if_taken (refusal (perform (call_rows row_take_back) t).answer) (rest h) h

-- a run goes by its first step
abbrev pub after : Call → Tables → List Rows → List Rows
after call_boot t h = if_taken (refusal (perform call_boot t).answer) [] h
after (call_rows c) t h = after_rows c t h
after call_step t h = stepped (step_tables t).answer h
after (call_run n) t h = if_taken (refusal (perform (call_run n) t).answer) (stepped (step_tables t).answer h) h

abbrev pub past : List Call → Tables → List Rows → List Rows
past [] t h = h
past (c ∷ cs) t h = past cs (perform c t).tables (after c t h)

-- What it has to do with the rows: the trace has the level of each, and cut to it the rows are those before the load

abbrev pub Turns : List Rows → Rows → Type 0
Turns [] r = Unit {0}
Turns (q ∷ qs) r = (cut_to (level_of q) r ≡ with_trace r.trace q) × Turns qs q

pub record Holds (h : List Rows) (r : Rows) : Type 0 where
  pub trace : r.trace ≡ map level_of h
  pub turns : Turns h r

turns-few : (n : ℕ) (h : List Rows) (r : Rows) → Turns h r → Turns (take n h) r
turns-few zero h r x = tt
turns-few (suc n) [] r x = tt
turns-few (suc n) (q ∷ h) r x = (x.0, turns-few n h q x.1)

levels-few : (n : ℕ) (h : List Rows) → take n (map level_of h) ≡ map level_of (take n h)
levels-few zero h = refl
levels-few (suc n) [] = refl
levels-few (suc n) (q ∷ h) = λ i. level_of q ∷ levels-few n h i

turns-traced : (h : List Rows) (r : Rows) (x : List Level) → Turns h r → Turns h (with_trace x r)
unfolding cut_to
turns-traced [] r x t = tt
turns-traced (q ∷ h) r x t = (ap (with_trace x) t.0, t.1)

none-holds : (r : Rows) → r.trace ≡ [] → Holds [] r
none-holds r e = record { trace = e; turns = tt }

load-holds : (h : List Rows) (r s : Rows) → Holds h r → Remembers r s → Holds (take trace_limit (r ∷ h)) s
load-holds h r s x m = record {
  trace = m.trace ∙ (ap (λ (ls : List Level). take trace_limit (level_of r ∷ ls)) x.trace ∙ levels-few trace_limit (r ∷ h));
  turns = turns-few trace_limit (r ∷ h) s (cut_load r s m.loads, x.turns);
}

head_or : Level → List Level → Level
head_or l [] = l
head_or l (m ∷ ls) = m

others : List Level → List Level
others [] = []
others (l ∷ ls) = ls

back-holds : (h : List Rows) (r s : Rows) → Holds h r → TakesBack r s → Holds (rest h) s
unfolding others head_or
back-holds [] r s x b = absurd (let z : length (b.latest ∷ b.others) ≡ length {A = Level} [] = ap length (sym b.trace ∙ x.trace) in omega arith)
back-holds (q ∷ h) r s x b =
    let e : b.latest ∷ b.others ≡ level_of q ∷ map level_of h = sym b.trace ∙ x.trace in
    let one : b.latest ≡ level_of q = ap (head_or (level_of q)) e in
    let more : b.others ≡ map level_of h = ap others e in
    let is : s ≡ with_trace (map level_of h) q =
    b.is ∙ (ap (λ (l : Level). with_trace b.others (cut_to l r)) one ∙ (ap (with_trace b.others) x.turns.0 ∙ ap (λ (ls : List Level). with_trace ls q) more)) in
    subst (Holds h) (sym is) (record { trace = refl; turns = turns-traced h q (map level_of h) x.turns.1 })

same-holds : (h : List Rows) (r s : Rows) → s ≡ r → Holds h r → Holds h s
same-holds h r s e x = subst (Holds h) (sym e) x

-- Each call keeps it

module _ (t : Tables) (h : List Rows) (x : Holds h (view t)) where
  refused-holds : (c : Call) (w : Refusal) → refusal (perform c t).answer ≡ some w → Holds h (view (perform c t).tables)
  refused-holds c w e = same-holds h (view t) (view (perform c t).tables) (ap view (refused-same c t w e).same) x

  closed-holds : (c : Call) → Closes c t → Holds [] (view (perform c t).tables)
  closed-holds c k = none-holds (view (perform c t).tables) (closes-all c t k).1

  taken-or : (c : Call) (a : List Rows) → (refusal (perform c t).answer ≡ none → Holds a (view (perform c t).tables))
      → Holds (if_taken (refusal (perform c t).answer) a h) (view (perform c t).tables)
  taken-or c a y = go (refusal (perform c t).answer) refl
    where
      go : (o : Option Refusal) → refusal (perform c t).answer ≡ o → Holds (if_taken o a h) (view (perform c t).tables)
      go none e = y e
      go (some w) e = refused-holds c w e

  loaded-holds : (c : Call) → ((adds c t ≡ false) × (view (perform c t).tables ≡ view t)) ⊎ ((adds c t ≡ true) × Remembers (view t) (view (perform c t).tables))
      → Holds (loaded c t h) (view (perform c t).tables)
  loaded-holds c (inl e) = rw (e.0, loaded) (same-holds h (view t) (view (perform c t).tables) e.1 x)
  loaded-holds c (inr m) = rw (m.0, loaded) (load-holds h (view t) (view (perform c t).tables) x m.1)

  rows-hold : (c : RowCall) → Holds (after_rows c t h) (view (perform (call_rows c) t).tables)
  rows-hold (row_define l bs) = loaded-holds (call_rows (row_define l bs)) (open-adds (call_rows (row_define l bs)) t (λ z. z) (λ z. z))
  rows-hold (row_record l n c) = loaded-holds (call_rows (row_record l n c)) (open-adds (call_rows (row_record l n c)) t (λ z. z) (λ z. z))
  rows-hold (row_start k l n m v) = taken-or (call_rows (row_start k l n m v)) [] (λ e. closed-holds (call_rows (row_start k l n m v)) e)
  rows-hold (row_drop k) = taken-or (call_rows (row_drop k)) [] (λ e. closed-holds (call_rows (row_drop k)) e)
  rows-hold row_sweep = taken-or (call_rows row_sweep) [] (λ e. closed-holds (call_rows row_sweep) e)
  rows-hold (row_try c n) = go (refusal (perform (call_rows (row_try c n)) t).answer) refl
    where
      go : (o : Option Refusal) → refusal (perform (call_rows (row_try c n)) t).answer ≡ o → Holds h (view (perform (call_rows (row_try c n)) t).tables)
      go none e = same-holds h (view t) (view (perform (call_rows (row_try c n)) t).tables) (call-traces (row_try c n) t e) x
      go (some w) e = refused-holds (call_rows (row_try c n)) w e
  rows-hold row_take_back = taken-or (call_rows row_take_back) (rest h) (λ e. back-holds h (view t) (view (perform (call_rows row_take_back) t).tables) x (call-traces row_take_back t e))

  -- a step, by its answer, where it closes and where it leaves the rows s
  stepped-holds : (a : Answer) (s : Rows) → (WentOn a → s.trace ≡ []) → ((WentOn a → ⊥) → s ≡ view t) → Holds (stepped a h) s
  stepped-holds Idle s y z = same-holds h (view t) s (z (λ n. n)) x
  stepped-holds (Ran k) s y z = none-holds s (y tt)
  stepped-holds (Finished k n) s y z = none-holds s (y tt)
  stepped-holds (Refused w) s y z = same-holds h (view t) s (z (λ n. n)) x

  pub call-holds : (c : Call) → Holds (after c t h) (view (perform c t).tables)
  call-holds call_boot = taken-or call_boot [] (λ e. closed-holds call_boot e)
  call-holds (call_rows c) = rows-hold c
  call-holds call_step = unfold perform in let d = step-traces t in stepped-holds (step_tables t).answer (view (step_tables t).tables) d.0 (λ n. ap view (d.1 n))
  call-holds (call_run n) = taken-or (call_run n) (stepped (step_tables t).answer h) (λ e.
      let d = run-traces n t in
      stepped-holds (step_tables t).answer (view (perform (call_run n) t).tables) (λ w. d.0 (e, w)) (λ w. ap view (d.1 (λ y. w y.1))))

pub past-holds : (cs : List Call) (t : Tables) (h : List Rows) → Holds h (view t) → Holds (past cs t h) (view (perform_all cs t).tables)
unfolding perform_all
past-holds [] t h x = x
past-holds (c ∷ cs) t h x = past-holds cs (perform c t).tables (after c t h) (call-holds t h x c)

-- What a taking back then does

abbrev pub BackTo : List Rows → Tables → Type 0
BackTo [] t = perform call_take_back t ≡ done (Denied (Word word_late)) t
BackTo (q ∷ qs) t = ((perform call_take_back t).answer ≡ Accepted) × (view (perform call_take_back t).tables ≡ with_trace (map level_of qs) q)

pub holds-back : (h : List Rows) (t : Tables) → broken t ≡ false → Holds h (view t) → BackTo h t
holds-back [] t b x = taken-late t b x.trace
holds-back (q ∷ qs) t b x =
    let d = taken-accepted t b (level_of q) (map level_of qs) x.trace in
    (d.0, d.1 ∙ ap (with_trace (map level_of qs)) x.turns.0)

-- from a boot, whatever the calls
pub taken-from-boot : (cs : List Call) (t : Tables) → (boot t).answer ≡ Accepted → BackTo (past cs (boot t).tables []) (perform_all cs (boot t).tables).tables
taken-from-boot cs t a =
    let d = (same-boot t (accepted-shaped t a)).1 in
    holds-back (past cs (boot t).tables []) (perform_all cs (boot t).tables).tables (all-unbroken cs (boot t).tables d.unbroken)
    (past-holds cs (boot t).tables [] (none-holds (view (boot t).tables) (ap (λ (r : Rows). r.trace) d.rows)))
