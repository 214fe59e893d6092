-- Room kept for quotes. The report has at most 192 objects (`share-kept`), so the quote is told 'full' for objects only while 64 or more are its own (`quote-full`,
-- `start-full`). 'Share used' is told exactly where 192 are the report's and no earlier cause applies (`share-refused`, `refused-share`), and never to the quote
-- (`quote-unshared`, `run-unshared`), nor to anyone where the report has no frame (`idle-unshared`, `idle-run-unshared`). An object stays the task's that made it (`owner-lasts`, `owner-swept`).
use Rattle.std.specs.Prelude.{◌≡◌, Bool, not, ◌&&◌, ◌||◌, List, [], ◌∷◌, ◌≢◌, ◌⊎◌, ℕ, zero, suc, ◌<◌, ◌≤◌, length, eqb, ltb}
use Rattle.std.proofs.Math.Path.{refl}
use Rattle.std.proofs.Common.{sym, ap, subst, ◌∙◌, true≢false, inl, inr, arith}
use Rattle.std.proofs.Math.Bool.{true, false}
use Rattle.std.proofs.lemmas.Bool.{false≢true}
use Rattle.std.proofs.Math.Option.{Option, none, some}
use borrow.Author.Tests.{eqb-true, eqb-false, leb-true, le-leb, ltb-true}
use Rattle.definition.specs.Numbers.{word_full, word_share}
use Rattle.definition.specs.Lists.{any}
use Rattle.definition.specs.declared.Refusal.{Refusal}
use Rattle.definition.specs.declared.Refusal.TheVariants.{Word}
use Rattle.definition.specs.declared.Answer.TheVariants.{Idle, Ran, Finished, Refused}
use Rattle.definition.specs.declared.Reply.{Reply}
use Rattle.definition.specs.declared.Reply.TheVariants.{Accepted, Defined, Stepped, RanFor, Swept, Denied}
use Rattle.definition.specs.declared.Instruction.{Instruction}
use Rattle.definition.specs.declared.Instruction.TheVariants.{AconstNull, Sipush, Load, Store, Pop, Dup, Arithmetic, Getfield, Putfield, Invokevirtual, New, Return, Branch}
use Rattle.definition.specs.Answers.{number, number_of_step, number_of, ends_in, ok, take?}
use Rattle.definition.specs.Classes.{Base, Class}
use Rattle.definition.specs.Constraints.{World}
use Rattle.definition.specs.Machine.{free, owned, Objects, Exists, made_by, roomless, share_used, Frame, Now, now}
use Rattle.definition.specs.Tables.{Tables, Rows, world_of, view}
use Rattle.definition.specs.Broken.{broken}
use Rattle.definition.specs.Calls.{turn_of, turn, step_tables, RowCall, row_define, row_record, row_start, row_drop, row_sweep, row_try, row_take_back, load_define, load_record, Call, call_boot, call_rows, call_start, call_sweep, call_step, call_run, perform, perform_all}
use Rattle.laws.specs.Causes.{Cause, cause, first, reading, instruction_causes, accessing, read_causes, frame_causes, define_causes, record_causes, start_causes, row_causes, causes}
use Rattle.laws.specs.Objects.{Tasked, quote-roomless}
use Rattle.laws.specs.Owners.{maker_of, leaves-maker}
use Rattle.laws.specs.Refusals.{running}
use Rattle.laws.specs.Results.{take-ok}
use Rattle.laws.specs.Runs.{after, run-keeps, run-ends-refused}
use Rattle.layout.specs.Tests.{All}
use Rattle.layout.specs.Whole.{RowSound}
use Rattle.layout.specs.Unbroken.{broken-false}
use Rattle.unbroken.specs.RefusingSteps.{now-reading}
use Rattle.unbroken.specs.First.{applied, first-applies}
use Rattle.unbroken.specs.Sweeping.{Turns}
use Rattle.unbroken.specs.Parts.{LeftBy, call-leaves, step-leaves}
use Rattle.unbroken.specs.Tasks.{step-none}
use Rattle.unbroken.specs.Lasting.{FreesRows, Frees}

tasked : (b : Base) (n : ℕ) (X : ℕ → Type 0) (os : Objects) → All (RowSound b n X) os → Tasked os
tasked b n X [] h = tt
tasked b n X (free ∷ os) h = tasked b n X os h.1
tasked b n X (owned k x ∷ os) h = (h.0.0, tasked b n X os h.1)

-- Of tables that aren't broken, and so, by `kept-unbroken`, after every call

pub share-kept : (t : Tables) → broken t ≡ false → made_by 1 (view t).objects ≤ 192
share-kept t h = (broken-false t h).1.share

pub quote-full : (t : Tables) → broken t ≡ false → roomless 0 (view t).objects ≡ true → 64 ≤ made_by 0 (view t).objects
quote-full t h r = let w = (broken-false t h).1 in quote-roomless (view t).objects (tasked _ _ _ (view t).objects w.objects) w.share r

-- the same, read the other way
pub quote-room : (t : Tables) → broken t ≡ false → made_by 0 (view t).objects < 64 → roomless 0 (view t).objects ≡ false
quote-room t h l = go (roomless 0 (view t).objects) refl
  where
    go : (b : Bool) → roomless 0 (view t).objects ≡ b → b ≡ false
    go true e = absurd (omega (arith, l, quote-full t h e))
    go false e = refl

-- Causes one by one

-- a word that is another's: the first cause doesn't apply
pub passed : (n : ℕ) (b : Bool) (cs : List Cause) (w : ℕ) → first (cause n b ∷ cs) ≡ w → n ≢ w → (b ≡ false) × (first cs ≡ w)
unfolding first
passed n true cs w h d = absurd (d h)
passed n false cs w h d = (refl, h)

-- a word that is the first's and none behind it has
pub met : (n : ℕ) (b : Bool) (cs : List Cause) → first (cause n b ∷ cs) ≡ n → first cs ≢ n → b ≡ true
unfolding first
met n true cs h d = refl
met n false cs h d = absurd (d h)

-- the causes that stand before the first with that word
unfoldable pub earlier : ℕ → List Cause → List Cause
earlier w [] = []
earlier w (c ∷ cs) = elim (eqb c.word w) [ true ↦ [] | false ↦ c ∷ earlier w cs ]

-- none of them applies
abbrev pub Unapplied : List Cause → Type 0
Unapplied cs = All (λ c. c.applies ≡ false) cs

-- Full: a start of the quote, on any tables

last-full : (b : Bool) → first (cause 10 b ∷ []) ≡ 10 → b ≡ true
last-full b h = met 10 b [] h (λ e. unfold first in omega (arith, e))

pub start-full : (l n m v : ℕ) (t : Tables) → (perform (call_start 0 l n m v) t).answer ≡ Denied (Word word_full) → 64 ≤ made_by 0 (view t).objects
unfolding causes row_causes start_causes number_of number
start-full l n m v t h =
    let w : first (causes (call_start 0 l n m v) t) ≡ 10 = sym (first-applies (call_start 0 l n m v) t) ∙ ap number_of h in
    let a = passed 1 _ _ 10 w (λ e. omega arith) in
    let b = passed 3 _ _ 10 a.1 (λ e. omega arith) in
    let c = passed 12 _ _ 10 b.1 (λ e. omega arith) in
    let d = passed 5 _ _ 10 c.1 (λ e. omega arith) in
    let x = passed 7 _ _ 10 d.1 (λ e. omega arith) in
    let y = passed 18 _ _ 10 x.1 (λ e. omega arith) in
    quote-full t a.0 (last-full _ y.1)

-- Share used: a call asks for an object of the report

-- a step of the report whose instruction is new
pub record NewTurn (t : Tables) : Type 0 where
  pub frame : Frame
  pub others : List Frame
  pub reads : Now
  pub turns : Turns t frame others reads
  pub class : ℕ
  pub makes : reads.at.instruction ≡ New class
  pub report : turn (view t) ≡ 1

abbrev pub Asks : Call → Tables → Type 0
Asks call_boot t = ⊥
Asks (call_rows (row_define l bs)) t = ⊥
Asks (call_rows (row_record l n c)) t = ⊥
Asks (call_rows (row_start k l n m v)) t = k ≡ 1
Asks (call_rows (row_drop k)) t = ⊥
Asks (call_rows row_sweep) t = ⊥
Asks (call_rows (row_try c n)) t = ⊥
Asks (call_rows row_take_back) t = ⊥
Asks call_step t = NewTurn t
Asks (call_run n) t = ⊥

-- the causes of an instruction that has been read
reads-some : (w : World) (f : Frame) (n : Now) → now w f ≡ ok n → reading w f ≡ some n
reads-some w f n e = take-ok _ _ (sym (now-reading w f) ∙ e)

used : (os : Objects) → 192 ≤ made_by 1 os → share_used 1 os ≡ true
unfolding share_used
used os h = le-leb 192 (made_by 1 os) h

-- whether the first cause with that word applies; if it does, and none before it, it is the answer
said_of : ℕ → List Cause → Bool
said_of w [] = false
said_of w (c ∷ cs) = elim (eqb c.word w) [ true ↦ c.applies | false ↦ said_of w cs ]

told : (w : ℕ) (cs : List Cause) → Unapplied (earlier w cs) → said_of w cs ≡ true → first cs ≡ w
unfolding earlier said_of first
told w [] h s = absurd (false≢true s)
told w (c ∷ cs) h s = go (eqb c.word w) refl h s (told w cs)
  where
    go : (b : Bool) → eqb c.word w ≡ b → Unapplied (elim b as (λ _. List Cause) [ true ↦ [] | false ↦ c ∷ earlier w cs ]) → (elim b as (λ _. Bool) [ true ↦ c.applies | false ↦ said_of w cs ]) ≡ true
        → (Unapplied (earlier w cs) → said_of w cs ≡ true → first cs ≡ w) → first (c ∷ cs) ≡ w
    go true e u a ih = rw (a, first) (eqb-true c.word w e)
    go false e u a ih = rw (u.0, first) (ih u.1 a)

-- and a word that is the answer is told with none before it
untold : (w : ℕ) (cs : List Cause) → first cs ≡ w → Unapplied (earlier w cs)
unfolding earlier first
untold w [] h = tt
untold w (c ∷ cs) h = go (eqb c.word w) refl c.applies refl h (untold w cs)
  where
    go : (b : Bool) → eqb c.word w ≡ b → (d : Bool) → c.applies ≡ d → (elim d as (λ _. ℕ) [ true ↦ c.word | false ↦ first cs ]) ≡ w → (first cs ≡ w → Unapplied (earlier w cs))
        → Unapplied (elim b as (λ _. List Cause) [ true ↦ [] | false ↦ c ∷ earlier w cs ])
    go true e d f q ih = tt
    go false e true f q ih = absurd (eqb-false c.word w e q)
    go false e false f q ih = (f, ih q)

-- the causes of a step whose instruction has been read
pub read-causes : (t : Tables) (f : Frame) (fs : List Frame) (n : Now) → Turns t f fs n
    → causes call_step t ≡ cause 1 (broken t) ∷ cause 14 false ∷ instruction_causes (turn (view t)) (world_of (view t)) (view t).objects f fs n.the_class n.at.instruction
unfolding causes
read-causes t f fs n r = rw (r.frames, reads-some (world_of (view t)) f n r.reads)

new-causes : (t : Tables) (a : NewTurn t)
    → causes call_step t ≡ cause 1 (broken t) ∷ cause 14 false ∷ instruction_causes 1 (world_of (view t)) (view t).objects a.frame a.others a.reads.the_class (New a.class)
new-causes t a = read-causes t a.frame a.others a.reads a.turns ∙ rw (a.report, a.makes)

pub share-refused : (c : Call) (t : Tables) → Asks c t → 192 ≤ made_by 1 (view t).objects → Unapplied (earlier word_share (causes c t)) → number_of (perform c t).answer ≡ word_share
share-refused call_boot t a m h = absurd a
share-refused (call_rows (row_define l bs)) t a m h = absurd a
share-refused (call_rows (row_record l n c)) t a m h = absurd a
share-refused (call_rows (row_start k l n x v)) t a m h = first-applies (call_start k l n x v) t ∙ told 18 _ h
    (unfold causes row_causes start_causes said_of in (ap (λ (j : ℕ). share_used j (view t).objects) a ∙ used (view t).objects m))
share-refused (call_rows (row_drop k)) t a m h = absurd a
share-refused (call_rows row_sweep) t a m h = absurd a
share-refused (call_rows (row_try c n)) t a m h = absurd a
share-refused (call_rows row_take_back) t a m h = absurd a
share-refused call_step t a m h = first-applies call_step t ∙ told 18 _ h
    (ap (said_of 18) (new-causes t a) ∙ (unfold instruction_causes said_of in used (view t).objects m))
share-refused (call_run n) t a m h = absurd a

-- An instruction is told so only if it is new

new-alone : (task : ℕ) (w : World) (os : Objects) (f : Frame) (fs : List Frame) (k : Class) (i : Instruction) → first (instruction_causes task w os f fs k i) ≡ 18
    → ((c : ℕ) × (i ≡ New c)) × (share_used task os ≡ true)
unfolding instruction_causes accessing any
new-alone task w os f fs k i h = go i (applied (instruction_causes task w os f fs k i) 17 h)
  where
    go : (i : Instruction) → any (λ c. eqb c.word 18 && c.applies) (instruction_causes task w os f fs k i) ≡ true → ((c : ℕ) × (i ≡ New c)) × (share_used task os ≡ true)
    go AconstNull e = absurd (false≢true e)
    go (Sipush n) e = absurd (false≢true e)
    go (Load kind j) e = absurd (false≢true e)
    go (Store kind j) e = absurd (false≢true e)
    go Pop e = absurd (false≢true e)
    go Dup e = absurd (false≢true e)
    go (Arithmetic o) e = absurd (false≢true e)
    go (Getfield c n t) e = absurd (false≢true e)
    go (Putfield c n t) e = absurd (false≢true e)
    go (Invokevirtual c s) e = absurd (false≢true e)
    go (New c) e = ((c, refl), share (share_used task os) e)
      where
        share : (b : Bool) → (elim b as (λ _. Bool) [ true ↦ true | false ↦ false ]) ≡ true → b ≡ true
        share true e = refl
        share false e = e
    go (Branch c p) e = absurd (false≢true e)
    go (Return kind) e = absurd (false≢true e)

few : (t : Tables) → broken t ≡ false → share_used 1 (view t).objects ≡ true → made_by 1 (view t).objects ≡ 192
unfolding share_used
few t h s = omega (arith, share-kept t h, leb-true 192 (made_by 1 (view t).objects) s)

two-turns : (r : Rows) → (turn r ≡ 0) ⊎ (turn r ≡ 1)
unfolding turn turn_of
two-turns r = go r.quote
  where
    go : (fs : List Frame) → (turn_of fs ≡ 0) ⊎ (turn_of fs ≡ 1)
    go [] = inr refl
    go (f ∷ fs) = inl refl

-- of a step: the first cause is 1, then what can't be read is 14
frame-shared : (t : Tables) (k : ℕ) (fs : List Frame) → turn (view t) ≡ k → running (view t).quote (view t).report ≡ fs → first (frame_causes k (world_of (view t)) (view t).objects fs) ≡ 18
    → NewTurn t × (share_used k (view t).objects ≡ true) × (k ≡ 1)
frame-shared t k [] e q h = absurd (false≢true (unfold any in applied _ 17 h))
frame-shared t k (f ∷ fs) e q h = go (reading (world_of (view t)) f) refl h
  where
    task : (k : ℕ) → (k ≡ 0) ⊎ (k ≡ 1) → share_used k (view t).objects ≡ true → k ≡ 1
    task k (inl z) u = absurd (false≢true (unfold share_used in (rw z at u)))
    task k (inr z) u = z

    go : (o : Option Now) → reading (world_of (view t)) f ≡ o → first (read_causes k (world_of (view t)) (view t).objects f fs o) ≡ 18 → NewTurn t × (share_used k (view t).objects ≡ true) × (k ≡ 1)
    go none r h = absurd (unfold first in omega (arith, h))
    go (some n) r h =
        let a = new-alone k (world_of (view t)) (view t).objects f fs n.the_class n.at.instruction (passed 14 _ _ 18 h (λ z. omega arith)).1 in
        let one = task k (subst (λ (j : ℕ). (j ≡ 0) ⊎ (j ≡ 1)) e (two-turns (view t))) a.1 in
        (record { frame = f; others = fs; reads = n; turns = record { frames = q; reads = now-reading (world_of (view t)) f ∙ (unfold take? in rw r) }; class = a.0.0; makes = a.0.1; report = e ∙ one }, a.1, one)

start-shared : (k l n m v : ℕ) (t : Tables) → first (causes (call_start k l n m v) t) ≡ 18 → (k ≡ 1) × (share_used k (view t).objects ≡ true) × (broken t ≡ false)
unfolding causes row_causes start_causes
start-shared k l n m v t h =
    let a = passed 1 _ _ 18 h (λ e. omega arith) in
    let b = passed 3 _ _ 18 a.1 (λ e. omega arith) in
    let c = passed 12 _ _ 18 b.1 (λ e. omega arith) in
    let d = passed 5 _ _ 18 c.1 (λ e. omega arith) in
    let x = passed 7 _ _ 18 d.1 (λ e. omega arith) in
    let u : share_used k (view t).objects ≡ true = met 18 _ _ x.1 (λ e. false≢true (unfold any in applied _ 17 e)) in
    (one k u (known (ltb k 2) _ b.0), u, a.0)
  where
    known : (d e : Bool) → (not d || e) ≡ false → d ≡ true
    known true e q = refl
    known false e q = absurd (true≢false q)

    one : (k : ℕ) → share_used k (view t).objects ≡ true → ltb k 2 ≡ true → k ≡ 1
    one zero u w = absurd (false≢true (unfold share_used in u))
    one (suc k) u w = omega (arith, ltb-true (suc k) 2 w)

step-passed : (t : Tables) → first (causes call_step t) ≡ 18
    → (broken t ≡ false) × (first (frame_causes (turn (view t)) (world_of (view t)) (view t).objects (running (view t).quote (view t).report)) ≡ 18)
unfolding causes
step-passed t w = passed 1 _ _ 18 w (λ e. omega arith)

-- every call: one that is told so asks for an object of the report, 192 that exist are the report's, and no earlier cause applies
pub refused-share : (c : Call) (t : Tables) → number_of (perform c t).answer ≡ word_share → Asks c t × (made_by 1 (view t).objects ≡ 192) × Unapplied (earlier word_share (causes c t))
refused-share c t h = let w : first (causes c t) ≡ 18 = sym (first-applies c t) ∙ h in go c w (untold 18 (causes c t) w)
  where
    go : (c : Call) → first (causes c t) ≡ 18 → Unapplied (earlier 18 (causes c t)) → Asks c t × (made_by 1 (view t).objects ≡ 192) × Unapplied (earlier 18 (causes c t))
    go call_boot w u = absurd (false≢true (unfold causes any in applied _ 17 w))
    go (call_rows (row_define l bs)) w u = absurd (false≢true (unfold causes row_causes define_causes any in applied _ 17 w))
    go (call_rows (row_record l n x)) w u = absurd (false≢true (unfold causes row_causes record_causes any in applied _ 17 w))
    go (call_rows (row_start k l n m v)) w u =
        let s = start-shared k l n m v t w in
        (s.0, few t s.2 (rw s.0 at s.1), u)
    go (call_rows (row_drop k)) w u = absurd (false≢true (unfold causes row_causes any in applied _ 17 w))
    go (call_rows row_sweep) w u = absurd (false≢true (unfold causes row_causes any in applied _ 17 w))
    go (call_rows (row_try (load_define l bs) n)) w u = absurd (false≢true (unfold causes row_causes define_causes any in applied _ 17 w))
    go (call_rows (row_try (load_record l x k) n)) w u = absurd (false≢true (unfold causes row_causes record_causes any in applied _ 17 w))
    go (call_rows row_take_back) w u = absurd (false≢true (unfold causes row_causes any in applied _ 17 w))
    go call_step w u =
        let a = step-passed t w in
        let s = frame-shared t (turn (view t)) (running (view t).quote (view t).report) refl refl a.1 in
        (s.0, few t a.0 (rw s.2 at s.1), u)
    go (call_run n) w u = absurd (false≢true (unfold causes any in applied _ 17 w))

-- and a run ends in it only where a step would be told so
pub run-shared : (n : ℕ) (t : Tables) (k : ℕ) (w : Refusal) → (perform (call_run n) t).answer ≡ RanFor k (Refused w) → number w ≡ word_share
    → NewTurn (after step_tables k t) × (made_by 1 (view (after step_tables k t)).objects ≡ 192)
run-shared n t k w e h =
    let r = run-ends-refused n t k w e in
    let s = refused-share call_step (after step_tables k t) (unfold perform number_of number_of_step in (ap number_of_step r.answers ∙ h)) in
    (s.0, s.1)

-- The quote is never told so: neither by a start nor by a step, nor does a run end in it while it is the quote's turn

abbrev pub Quotes : Call → Tables → Type 0
Quotes call_boot t = ⊥
Quotes (call_rows (row_define l bs)) t = ⊥
Quotes (call_rows (row_record l n c)) t = ⊥
Quotes (call_rows (row_start k l n m v)) t = k ≡ 0
Quotes (call_rows (row_drop k)) t = ⊥
Quotes (call_rows row_sweep) t = ⊥
Quotes (call_rows (row_try c n)) t = ⊥
Quotes (call_rows row_take_back) t = ⊥
Quotes call_step t = turn (view t) ≡ 0
Quotes (call_run n) t = ⊥

pub quote-unshared : (c : Call) (t : Tables) → Quotes c t → number_of (perform c t).answer ≢ word_share
quote-unshared call_boot t q h = q
quote-unshared (call_rows (row_define l bs)) t q h = q
quote-unshared (call_rows (row_record l n c)) t q h = q
quote-unshared (call_rows (row_start k l n m v)) t q h = let one : k ≡ 1 = (refused-share (call_start k l n m v) t h).0 in omega (arith, q, one)
quote-unshared (call_rows (row_drop k)) t q h = q
quote-unshared (call_rows row_sweep) t q h = q
quote-unshared (call_rows (row_try c n)) t q h = q
quote-unshared (call_rows row_take_back) t q h = q
quote-unshared call_step t q h = let a : NewTurn t = (refused-share call_step t h).0 in omega (arith, q, a.report)
quote-unshared (call_run n) t q h = q

pub run-unshared : (n : ℕ) (t : Tables) (k : ℕ) (w : Refusal) → (perform (call_run n) t).answer ≡ RanFor k (Refused w) → turn (view (after step_tables k t)) ≡ 0 → number w ≢ word_share
run-unshared n t k w e q h = omega (arith, q, (run-shared n t k w e h).0.report)

-- nor is anyone where the report has no frame and is not started
pub idle-unshared : (t : Tables) → (view t).report ≡ [] → NewTurn t → ⊥
unfolding turn turn_of
idle-unshared t idle a = go (view t).quote (view t).report idle a.report a.turns.frames
  where
    go : (q p : List Frame) → p ≡ [] → turn_of q ≡ 1 → running q p ≡ a.frame ∷ a.others → ⊥
    go (f ∷ fs) p n e r = omega (arith, e)
    go [] p n e r = let l : length (a.frame ∷ a.others) ≡ length {A = Frame} [] = ap length (sym r ∙ n) in omega arith

-- the word that a run ends in
ends-in : (a : Reply) (n : ℕ) → ends_in a ≡ suc n → (k : ℕ) × (w : Refusal) × (a ≡ RanFor k (Refused w)) × (number w ≡ suc n)
unfolding ends_in number_of_step
ends-in Accepted n h = absurd (omega (arith, h))
ends-in (Defined c) n h = absurd (omega (arith, h))
ends-in (Stepped a) n h = absurd (omega (arith, h))
ends-in (RanFor k Idle) n h = absurd (omega (arith, h))
ends-in (RanFor k (Ran j)) n h = absurd (omega (arith, h))
ends-in (RanFor k (Finished j v)) n h = absurd (omega (arith, h))
ends-in (RanFor k (Refused w)) n h = (k, w, refl, h)
ends-in (Swept m) n h = absurd (omega (arith, h))
ends-in (Denied w) n h = absurd (omega (arith, h))

steps-none : (k : ℕ) (t : Tables) → (view t).report ≡ [] → (view (after step_tables k t)).report ≡ []
unfolding after
steps-none zero t e = e
steps-none (suc k) t e = steps-none k (step_tables t).tables (step-none t e)

pub idle-run-unshared : (n : ℕ) (t : Tables) → (view t).report ≡ [] → ends_in (perform (call_run n) t).answer ≢ word_share
idle-run-unshared n t idle h =
    let e = ends-in (perform (call_run n) t).answer 17 h in
    idle-unshared (after step_tables e.0 t) (steps-none e.0 t idle) (run-shared n t e.0 e.1 e.2 e.3).0

-- Whose an object is: no call but a boot and a sweep changes it, and a sweep leaves it of all that stay

maker-left : (c : RowCall) → (FreesRows c → ⊥) → (r s : Rows) → LeftBy c r s → (o k : ℕ) → maker_of r.objects o ≡ some k → maker_of s.objects o ≡ some k
maker-left (row_define l bs) h r s a o k m = rw a.objects m
maker-left (row_record l n c) h r s a o k m = rw a.objects m
maker-left (row_start j l n x v) h r s g o k m = leaves-maker j r.objects s.objects g.owners o k m
maker-left (row_drop j) h r s g o k m = leaves-maker j r.objects s.objects g.owners o k m
maker-left row_sweep h r s g o k m = absurd (h tt)
maker-left (row_try c n) h r s e o k m = rw e m
maker-left row_take_back h r s a o k m = rw (← a.objects) m

maker-step : (t : Tables) (o k : ℕ) → maker_of (view t).objects o ≡ some k → maker_of (view (step_tables t).tables).objects o ≡ some k
maker-step t o k m = leaves-maker (turn (view t)) (view t).objects (view (step_tables t).tables).objects (step-leaves t).owners o k m

pub owner-lasts : (c : Call) → (Frees c → ⊥) → (t : Tables) (o k : ℕ) → maker_of (view t).objects o ≡ some k → maker_of (view (perform c t).tables).objects o ≡ some k
owner-lasts call_boot h t o k m = absurd (h tt)
owner-lasts (call_rows c) h t o k m = maker-left c h (view t) _ (call-leaves c t) o k m
owner-lasts call_step h t o k m = unfold perform in maker-step t o k m
owner-lasts (call_run n) h t o k m = unfold perform in run-keeps (λ s. maker_of (view s).objects o ≡ some k) (λ s e. maker-step s o k e) n t m

pub owner-lasts-all : (cs : List Call) → All (λ c. Frees c → ⊥) cs → (t : Tables) (o k : ℕ) → maker_of (view t).objects o ≡ some k → maker_of (view (perform_all cs t).tables).objects o ≡ some k
unfolding perform_all
owner-lasts-all [] h t o k m = m
owner-lasts-all (c ∷ cs) h t o k m = owner-lasts-all cs h.1 (perform c t).tables o k (owner-lasts c h.0 t o k m)

pub owner-swept : (t : Tables) (o : ℕ) → Exists (view (perform call_sweep t).tables).objects o → maker_of (view (perform call_sweep t).tables).objects o ≡ maker_of (view t).objects o
owner-swept t o e = (call-leaves row_sweep t).makers o e
