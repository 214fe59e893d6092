-- A quote that wants a class keeps the turn until the class is loaded or the quote dropped: whatever calls come between, each step wants that class
-- again, no frame of the quote moves, and no instruction of the report runs. A class that was loaded and taken back is wanted again by the same frame: only a
-- step moves it, and that closes the load.
use Rattle.std.specs.Prelude.{◌≡◌, Bool, true, false, ◌⊎◌}
use Rattle.std.proofs.Math.Path.{refl, sym, ap, subst}
use Rattle.std.proofs.Common.{◌∙◌, inl, inr, arith}
use Rattle.std.proofs.Math.Option.{Option, none, some, none-ne-some}
use mathlib.Core.List.{List, [], ◌∷◌}
use Prim.Native.Nat.{ℕ, zero, suc, ◌<◌}
use Rattle.std.proofs.Math.ListN.{length, get_elem?, length-map}
use borrow.Author.Tests.{leb-true, ltb-true}
use Rattle.definition.specs.declared.Refusal.{Refusal}
use Rattle.definition.specs.declared.Refusal.TheVariants.{Wanted, Word}
use Rattle.definition.specs.declared.Instruction.{Instruction}
use Rattle.definition.specs.declared.Instruction.TheVariants.{AconstNull, Sipush, Load, Store, Pop, Dup, Arithmetic, Getfield, Putfield, Invokevirtual, New, Return, Branch}
use Rattle.definition.specs.declared.Answer.{Answer}
use Rattle.definition.specs.declared.Answer.TheVariants.{Refused}
use Rattle.definition.specs.declared.Reply.{Reply}
use Rattle.definition.specs.declared.Reply.TheVariants.{Denied}
use Rattle.definition.specs.Requests.{at}
use Rattle.definition.specs.Answers.{Result, refused, ok, ◌>>=◌, take?}
use Rattle.definition.specs.Classes.{Class, find}
use Rattle.definition.specs.Constraints.{World}
use Rattle.definition.specs.Instructions.{Decoded}
use Rattle.definition.specs.Loading.{started}
use Rattle.definition.specs.File.{class_of}
use Rattle.definition.specs.Machine.{Objects, Exists, Frame, Progress, Now, now, execute, step}
use Rattle.definition.specs.Tables.{Tables, Level, Rows, class_at, cut_to, world_of, view, with_frames, with_trace}
use Rattle.definition.specs.Broken.{broken}
use Rattle.definition.specs.Calls.{Given, closed, progressed, taken_back, turn, define_rows, record_rows, start_rows, drop_rows, sweep_rows, step_task, step_on, step_rows, Done, done, carried, step_tables, run, Call, call_boot, call_step, call_run, perform, perform_all, RowCall, row_define, row_record, row_start, row_drop, row_sweep, row_try, row_take_back, on_row_call, call_rows}
use Rattle.laws.specs.Agreement.{nth-more}
use Rattle.laws.specs.Refusals.{class_in, running}
use Rattle.laws.specs.Refused.{step-refused}
use Rattle.laws.specs.Results.{bind_ok, need-ok, take-ok}
use Rattle.laws.specs.Wrapped.{wrap-broken, wrap-carried, Ok, ok_at, then}
use Rattle.laws.specs.Runs.{run-keeps}
use Rattle.laws.specs.Tried.{try-leaves}
use Rattle.layout.specs.Tests.{All}
use Rattle.layout.specs.Traced.{EachTurn, Leaves, Traced, Back, Traceless}
use Rattle.layout.specs.Whole.{Framed, Whole}
use Rattle.unbroken.specs.Accepted.{defined-is}
use Rattle.unbroken.specs.Calls.{world-defined, rows_whole, step-whole}
use Rattle.unbroken.specs.Cut.{cut-grows, cut-whole}
use Rattle.unbroken.specs.Traces.{TraceBy, TakesBack, rows-trace, step-trace, back-kept, back-stepped}
use Rattle.unbroken.specs.WholeRows.{nth-there}
use Rattle.unbroken.specs.Parts.{LeftBy, rows_left, Goes, step-goes}
use Rattle.unbroken.specs.Unbroken.{shown, shown-traced, kept-unbroken}
use Rattle.unbroken.specs.Lasting.{lasts-left}

-- The quote has frame f on top, where it can read n; n names a class
pub record QuoteReads (f : Frame) (fs : List Frame) (l c : ℕ) (r : Rows) : Type 0 where
  pub quote : r.quote ≡ f ∷ fs
  pub reads : Now
  pub is_now : now (world_of r) f ≡ ok reads
  pub names : class_in reads.at.instruction ≡ some c
  pub loader : reads.the_class.loader ≡ l

-- which isn't cached
pub record QuoteWants (f : Frame) (fs : List Frame) (l c : ℕ) (r : Rows) : Type 0 where
  pub frame : QuoteReads f fs l c r
  pub missing : find r.cache (at l c) ≡ none

abbrev wanting : {f : Frame} {fs : List Frame} {l c : ℕ} {r : Rows} → QuoteReads f fs l c r → find r.cache (at l c) ≡ none → QuoteWants f fs l c r
wanting h m = record { frame = h; missing = m }

-- neither a boot nor a drop of the quote
abbrev pub KeepsQuoteRows : RowCall → Type 0
KeepsQuoteRows (row_define l bs) = Unit {0}
KeepsQuoteRows (row_record l n c) = Unit {0}
KeepsQuoteRows (row_start k l n m v) = Unit {0}
KeepsQuoteRows (row_drop k) = k ≡ 0 → ⊥
KeepsQuoteRows row_sweep = Unit {0}
KeepsQuoteRows (row_try d n) = Unit {0}
KeepsQuoteRows row_take_back = Unit {0}

abbrev pub KeepsQuote : Call → Type 0
KeepsQuote call_boot = ⊥
KeepsQuote (call_rows c) = KeepsQuoteRows c
KeepsQuote call_step = Unit {0}
KeepsQuote (call_run n) = Unit {0}

-- a run whose first step is refused leaves the tables
pub run-same : (n : ℕ) (t : Tables) (w : Refusal) → step_tables t ≡ done (Refused w) t → (run n t).tables ≡ t
run-same n t w e = run-keeps (λ s. s ≡ t) (λ s q. ap (λ (z : Tables). (step_tables z).tables) q ∙ ap (λ (d : Done Answer). d.tables) e) n t refl

-- An instruction that names a class wants it where it isn't cached

module _ (task : ℕ) (w : World) (os : Objects) (f : Frame) (fs : List Frame) (k : Class) (i : Decoded) (c : ℕ) (m : find w.base.cache (at k.loader c) ≡ none) where
  wants : (j : Instruction) → class_in j ≡ some c → execute task w os f fs k i j ≡ refused (Wanted k.loader c)
  unfolding execute ◌>>=◌ take?
  wants AconstNull e = absurd (none-ne-some c e)
  wants (Sipush n) e = absurd (none-ne-some c e)
  wants (Load kind j) e = absurd (none-ne-some c e)
  wants (Store kind j) e = absurd (none-ne-some c e)
  wants Pop e = absurd (none-ne-some c e)
  wants Dup e = absurd (none-ne-some c e)
  wants (Arithmetic o) e = absurd (none-ne-some c e)
  wants (Getfield x n t) e = let z : x ≡ c = cc in rw (z, m) refl
  wants (Putfield x n t) e = let z : x ≡ c = cc in rw (z, m) refl
  wants (Invokevirtual x s) e = let z : x ≡ c = cc in rw (z, m) refl
  wants (New x) e = let z : x ≡ c = cc in rw (z, m) refl
  wants (Branch x p) e = absurd (none-ne-some c e)
  wants (Return kind) e = absurd (none-ne-some c e)

module _ (f : Frame) (fs : List Frame) (l c : ℕ) where
  -- Such a quote's step is refused, and only such a quote's is refused so

  wants-step : (w : World) (os : Objects) (n : Now) → now w f ≡ ok n → class_in n.at.instruction ≡ some c → n.the_class.loader ≡ l → find w.base.cache (at l c) ≡ none → step 0 w os f fs ≡ refused (Wanted l c)
  unfolding step ◌>>=◌
  wants-step w os n e i q m = rw e (wants 0 w os f fs n.the_class n.at c (rw q m) n.at.instruction i ∙ ap (λ (x : ℕ). refused (Wanted x c)) q)

  wants-rows : (r : Rows) → QuoteWants f fs l c r → step_rows r ≡ refused (Wanted l c)
  unfolding step_rows step_on step_task ◌>>=◌
  wants-rows r q = let h = q.frame in rw h.quote (rw (wants-step (world_of r) r.objects h.reads h.is_now h.names h.loader q.missing) refl)

  wants-tables : (t : Tables) → broken t ≡ false → QuoteWants f fs l c (view t) → step_tables t ≡ done (Refused (Wanted l c)) t
  unfolding step_tables carried
  wants-tables t h q = wrap-carried Refused step_rows t h ∙ ap (carried Refused t) (wants-rows (view t) q)

  -- What keeps the classes and the quote keeps its frame as it is

  now-same : (w v : World) (n : Now) → ((k : Class) → get_elem? w.base.classes f.class ≡ some k → get_elem? v.base.classes f.class ≡ some k) → now w f ≡ ok n → now v f ≡ ok n
  unfolding now ◌>>=◌ take?
  now-same w v n keep e =
      let a = bind_ok (take? (get_elem? w.base.classes f.class) (Word 14)) _ e in
      rw (keep a.0 (take-ok _ _ a.1)) a.2

  abbrev Reads : Rows → Type 0
  Reads r = QuoteReads f fs l c r

  abbrev Q : {A : Type 0} → Given A → Type 0
  Q g = Reads g.rows

  still : (r s : Rows) → s.quote ≡ r.quote → ((k : Class) → get_elem? (world_of r).base.classes f.class ≡ some k → get_elem? (world_of s).base.classes f.class ≡ some k)
      → Reads r → Reads s
  still r s q keep h = record { quote = q ∙ h.quote; reads = h.reads; is_now = now-same (world_of r) (world_of s) h.reads keep h.is_now; names = h.names; loader = h.loader }

  define-waits : (m : ℕ) (bs : List ℕ) (r : Rows) → Whole r → Reads r → Ok (define_rows m bs r) Q
  unfolding define_rows
  define-waits m bs r w h = then Q _ _ (λ _ a. then Q _ _ (λ x rx. then Q _ _ (λ v e.
      let d = defined-is _ _ (world_of r) v e in
      still r _ refl (λ k i. subst (λ (z : World). get_elem? z.base.classes f.class ≡ some k) (d.is ∙ sym (world-defined r w m bs x v (ltb-true m 16 (need-ok _ _ a)) (take-ok _ _ rx) e))
      (nth-more (world_of r).base.classes (class_of m x ∷ []) f.class k i)) h)))

  record-waits : (m n d : ℕ) (r : Rows) → Reads r → Ok (record_rows m n d r) Q
  unfolding record_rows
  record-waits m n d r h = then Q _ _ (λ v _. still r _ refl (λ k i. i) h)

  -- the quote is busy
  busy : (m n x v : ℕ) (r : Rows) → Reads r → (o : Progress) → started 0 m n x v (world_of r) r.objects r.quote ≡ ok o → ⊥
  unfolding started
  busy m n x v r h o e =
      let a = bind_ok _ _ e in
      let b = bind_ok _ _ a.2 in
      omega (arith, leb-true (length r.quote) 0 (need-ok _ _ b.1), ap length h.quote)

  start-waits : (j m n x v : ℕ) (r : Rows) → Reads r → Ok (start_rows j m n x v r) Q
  unfolding start_rows
  start-waits zero m n x v r h = then Q _ _ (λ _ _. then Q _ _ (λ o e. absurd (busy m n x v r h o e)))
  start-waits (suc j) m n x v r h = then Q _ _ (λ _ _. then Q _ _ (λ o _. still r (closed (progressed (suc j) r o)) refl (λ k i. i) h))

  drop-waits : (j : ℕ) (r : Rows) → (j ≡ 0 → ⊥) → Reads r → Ok (drop_rows j r) Q
  unfolding drop_rows
  drop-waits zero r n h = absurd (n refl)
  drop-waits (suc j) r n h = then Q _ _ (λ _ _. still r (closed (with_frames (suc j) [] r)) refl (λ k i. i) h)

  -- a taking back leaves the frame's class
  taken-waits : (ls : List Level) (r : Rows) → Whole r → EachTurn Leaves ls r → Reads r → Ok (taken_back ls r) Q
  unfolding taken_back
  taken-waits [] r w b h = tt
  taken-waits (x ∷ ls) r w b h =
      let v = cut-whole x r b.0.1 b.0.0 w in
      let q : (cut_to x r).quote ≡ f ∷ fs = unfold cut_to in h.quote in
      let own : f.class < length (cut_to x r).classes = (subst (All (Framed (length (cut_to x r).classes) (Exists (cut_to x r).objects))) q v.quote).0.class in
      let there = nth-there (world_of (cut_to x r)).base.classes f.class (omega (arith, own, length-map (cut_to x r).classes (class_at (cut_to x r).kept))) in
      still r (with_trace ls (cut_to x r)) (unfold cut_to in refl)
      (λ k i. there.1 ∙ (sym ((cut-grows x r b.0.1).classes f.class there.0 there.1) ∙ i)) h

  rows-wait : (d : RowCall) → KeepsQuoteRows d → (r : Rows) → Whole r → Traced r → Reads r → Ok (on_row_call d r) Q
  rows-wait (row_define m bs) b r w t h = define-waits m bs r w h
  rows-wait (row_record m n d) b r w t h = record-waits m n d r h
  rows-wait (row_start j m n x v) b r w t h = start-waits j m n x v r h
  rows-wait (row_drop j) b r w t h = drop-waits j r b h
  rows-wait row_sweep b r w t h = unfold sweep_rows in still r _ refl (λ k i. i) h
  rows-wait (row_try d n) b r w t h = try-leaves Reads d n r h
  rows-wait row_take_back b r w t h = taken-waits r.trace r w t h

  -- Once the quote has moved, the class is loaded for good: no load that can be taken back is the one that loaded it

  abbrev Cached : Rows → Type 0
  Cached r = (x : ℕ) × (find r.cache (at l c) ≡ some x)

  abbrev Fixed : Rows → Type 0
  Fixed r = Cached r × Back Cached r.trace r

  cached-traceless : Traceless Cached
  cached-traceless r x h = h

  cached-taken : (r s : Rows) → TakesBack r s → Fixed r → Cached s
  cached-taken r s t h =
      let b : Back Cached (t.latest ∷ t.others) r = subst (λ ls. Back Cached ls r) t.trace h.1 in
      subst Cached (sym t.is) (cached-traceless (cut_to t.latest r) t.others b.0)

  cached-stays : (d : RowCall) (r s : Rows) → TraceBy d r s → LeftBy d r s → Fixed r → Cached s
  cached-stays (row_define m bs) r s t e h = (h.0.0, (lasts-left (row_define m bs) (λ z. z) r s e).cache (at l c) h.0.0 h.0.1)
  cached-stays (row_record m n d) r s t e h = (h.0.0, (lasts-left (row_record m n d) (λ z. z) r s e).cache (at l c) h.0.0 h.0.1)
  cached-stays (row_start j m n x v) r s t e h = (h.0.0, (lasts-left (row_start j m n x v) (λ z. z) r s e).cache (at l c) h.0.0 h.0.1)
  cached-stays (row_drop j) r s t e h = (h.0.0, (lasts-left (row_drop j) (λ z. z) r s e).cache (at l c) h.0.0 h.0.1)
  cached-stays row_sweep r s t e h = (h.0.0, (lasts-left row_sweep (λ z. z) r s e).cache (at l c) h.0.0 h.0.1)
  cached-stays (row_try d n) r s t e h = (h.0.0, (lasts-left (row_try d n) (λ z. z) r s e).cache (at l c) h.0.0 h.0.1)
  cached-stays row_take_back r s t e h = cached-taken r s t h

  rows-fixed : (d : RowCall) (r s : Rows) → TraceBy d r s → LeftBy d r s → Fixed r → Fixed s
  rows-fixed d r s t e h = (cached-stays d r s t e h, back-kept Cached cached-traceless d r s t h.0 h.1)

  step-fixed : (r s : Rows) → (s ≡ r) ⊎ (s.trace ≡ []) → s.cache ≡ r.cache → Fixed r → Fixed s
  step-fixed r s t e h = ((h.0.0, ap (λ es. find es (at l c)) e ∙ h.0.1), back-stepped Cached cached-traceless r s t h.1)

  -- The frame is as it was, or the class is loaded for good

  abbrev Held : Rows → Type 0
  Held r = Reads r ⊎ Fixed r

  rows-held : (d : RowCall) → KeepsQuoteRows d → (r : Rows) → Whole r → Traced r → Held r → (g : Given Reply) → on_row_call d r ≡ ok g → Held g.rows
  rows-held d b r w t (inl h) g e = inl (ok_at Q _ (rows-wait d b r w t h) g e)
  rows-held d b r w t (inr h) g e =
      inr (rows-fixed d r g.rows (ok_at (λ (g : Given Reply). TraceBy d r g.rows) _ (rows-trace r w.numbers d) g e) (ok_at (λ (g : Given Reply). LeftBy d r g.rows) _ (rows_left d r) g e) h)

  step-held : (r : Rows) → Held r → (g : Given Answer) → step_rows r ≡ ok g → Held g.rows
  step-held r h g e = go h (ok_at (λ (g : Given Answer). (g.rows ≡ r) ⊎ (g.rows.trace ≡ [])) _ (step-trace r) g e)
    where
      same : g.rows.cache ≡ r.cache
      same = (ok_at (λ (g : Given Answer). Goes (turn r) r g.rows) _ (step-goes r) g e).cache

      -- it ran, so the class is there
      loaded : Reads r → (o : Option ℕ) → find r.cache (at l c) ≡ o → Cached r
      loaded q none m =
          absurd (let z : ◌≡◌ {A = Result (Given Answer)} (refused (Wanted l c)) (ok g) = sym (wants-rows r (wanting q m)) ∙ e in let y : ◌≡◌ {A = ℕ} 0 1 = cc in omega arith)
      loaded q (some x) m = (x, m)

      go : Held r → (g.rows ≡ r) ⊎ (g.rows.trace ≡ []) → Held g.rows
      go (inl q) (inl s) = subst Held (sym s) (inl q)
      go (inl q) (inr s) =
          let k = loaded q (find r.cache (at l c)) refl in
          inr ((k.0, ap (λ es. find es (at l c)) same ∙ k.1), subst (λ ls. Back Cached ls g.rows) (sym s) tt)
      go (inr q) s = inr (step-fixed r g.rows s same q)

  one-held : (t : Tables) → Held (view t) → Held (view (step_tables t).tables)
  unfolding step_tables
  one-held t h = shown Refused step_rows (λ _ s. Held s) t step-whole (λ _. h) (λ _ g e. step-held (view t) h g e)

  call-held : (d : Call) → KeepsQuote d → (t : Tables) → Held (view t) → Held (view (perform d t).tables)
  unfolding perform
  call-held call_boot b t h = absurd b
  call-held (call_rows d) b t h =
      shown-traced Denied (on_row_call d) (λ _ s. Held s) t (λ r w. rows_whole r w d) (λ _. h) (λ w x g e. rows-held d b (view t) w x h g e)
  call-held call_step b t h = one-held t h
  call-held (call_run n) b t h = run-keeps (λ s. Held (view s)) one-held n t h

  all_held : (cs : List Call) → All KeepsQuote cs → (t : Tables) → Held (view t) → Held (view (perform_all cs t).tables)
  unfolding perform_all
  all_held [] b t h = h
  all_held (d ∷ cs) b t h = all_held cs b.1 (perform d t).tables (call-held d b.0 t h)

  all-unbroken : (cs : List Call) (t : Tables) → broken t ≡ false → broken (perform_all cs t).tables ≡ false
  unfolding perform_all
  all-unbroken [] t h = h
  all-unbroken (d ∷ cs) t h = all-unbroken cs (perform d t).tables (kept-unbroken d t h)

  all-wait : (cs : List Call) → All KeepsQuote cs → (t : Tables) → broken t ≡ false → QuoteWants f fs l c (view t) → find (view (perform_all cs t).tables).cache (at l c) ≡ none
      → (broken (perform_all cs t).tables ≡ false) × QuoteWants f fs l c (view (perform_all cs t).tables)
  all-wait cs b t h q m = (all-unbroken cs t h, go (all_held cs b t (inl q.frame)))
    where
      go : Held (view (perform_all cs t).tables) → QuoteWants f fs l c (view (perform_all cs t).tables)
      go (inl k) = wanting k m
      go (inr k) = absurd (none-ne-some k.0.0 (sym m ∙ k.0.1))

-- The statement

first_frame : (q p : List Frame) (f : Frame) (fs : List Frame) → (q ≡ [] → ⊥) → running q p ≡ f ∷ fs → q ≡ f ∷ fs
first_frame [] p f fs h e = absurd (h refl)
first_frame (g ∷ gs) p f fs h e = e

not-broken : (t : Tables) (l c : ℕ) → (step_tables t).answer ≡ Refused (Wanted l c) → broken t ≡ false
unfolding step_tables
not-broken t l c e = go (broken t) refl
  where
    go : (b : Bool) → broken t ≡ b → broken t ≡ false
    go true h = absurd (let z : Refused (Word 1) ≡ Refused (Wanted l c) = sym (ap (λ (d : Done Answer). d.answer) (wrap-broken Refused step_rows t h)) ∙ e in let y : ◌≡◌ {A = ℕ} 0 1 = cc in omega arith)
    go false h = h

-- a step of the quote wants (l, c); then come any calls but a boot and a drop of the quote, and (l, c) isn't loaded
pub keeps-turn : (t : Tables) (l c : ℕ) → ((view t).quote ≡ [] → ⊥) → (step_tables t).answer ≡ Refused (Wanted l c) → (cs : List Call) → All KeepsQuote cs
    → find (view (perform_all cs t).tables).cache (at l c) ≡ none
    → (step_tables (perform_all cs t).tables ≡ done (Refused (Wanted l c)) (perform_all cs t).tables) × ((view (perform_all cs t).tables).quote ≡ (view t).quote)
keeps-turn t l c q e cs b m =
    let d = (step-refused t (Wanted l c) e).due in
    let n = d.1 in
    let first = first_frame (view t).quote (view t).report n.frame n.others q n.turn in
    let w = all-wait n.frame n.others l c cs b t (not-broken t l c e)
    (record { frame = record { quote = first; reads = n.reads; is_now = n.is_now; names = n.names; loader = n.loader }; missing = d.2 }) m in
    (wants-tables n.frame n.others l c (perform_all cs t).tables w.0 w.1, w.1.frame.quote ∙ sym first)
