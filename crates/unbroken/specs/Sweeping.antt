-- A sweep on tables that aren't broken: an object is in use afterwards exactly if it was and a frame reaches it, and is then the same (`sweep-keeps-it`,
-- `sweep-left-it`); no table but counts changes, and of counts no cell but owners (`sweep-tables`); the answer is the number freed (`sweep-counts`); a second sweep
-- frees none and changes nothing (`sweep-twice`); where no task has a frame, none is left (`sweep-empties`). And no place names an object that doesn't exist
-- (`root-exists`, `field-exists`, `named-exists`); the number that an object gets is unused and the lowest (`start-takes`, `new-takes`).
use Rattle.std.specs.Prelude.{◌≡◌, refl, Bool, true, ◌⊎◌, ◌≢◌, ℕ, zero, suc, ◌+◌, ◌<◌, ◌≤◌, length, get_or, set, eqb, ltb}
use Rattle.std.proofs.Common.{sym, ◌∙◌, arith, get_or-set_same, ltb-true, ltb-false}
use Rattle.std.proofs.Math.Path.{ap, subst}
use Rattle.std.proofs.Math.Bool.{false, false≢true}
use Rattle.std.proofs.Math.Option.{none, some}
use mathlib.Core.List.Memᴰ
use mathlib.Core.List.{List, [], ◌∷◌, ◌++◌, Memᴰ}
use Rattle.std.proofs.Math.Logic.{inl, inr}
use Rattle.std.proofs.Math.ListN.{get_elem?}
use Rattle.std.proofs.Math.Seq.{get_or-set_other}
use Rattle.definition.specs.declared.Refusal.TheVariants.{Word}
use Rattle.definition.specs.declared.Reply.{Reply}
use Rattle.definition.specs.declared.Reply.TheVariants.{Accepted, Swept, Denied}
use Rattle.definition.specs.declared.Answer.{Answer}
use Rattle.definition.specs.declared.Answer.TheVariants.{Ran, Refused}
use Rattle.definition.specs.declared.Instruction.{Instruction}
use Rattle.definition.specs.declared.Instruction.TheVariants.{New}
use Rattle.definition.specs.Chains.{Chain, stay, hop, has}
use Rattle.definition.specs.Classes.{Class}
use Rattle.definition.specs.Constraints.{World}
use Rattle.definition.specs.Instructions.{Decoded, pick}
use Rattle.definition.specs.Lists.{write_rows}
use Rattle.definition.specs.Machine.{Value, empty_value, int_value, null_value, object_value, unlisted_value, Object, ObjectRow, free, owned, Objects, existing, Exists, in_use, unused, made, Frame, entry_frame, Progress, Now, now, new_object, past, execute, step}
use Rattle.definition.specs.Numbers.{object_limit, owners_cell, tie_numbers_cell, loads_cell, trace_cell}
use Rattle.definition.specs.Sweeping.{named, roots, links, Reached, reached}
use Rattle.definition.specs.Loading.{started}
use Rattle.definition.specs.Tables.{Tables, tables, Rows, world_of, view_base, view_over, view, put, owner_of, owner_at, put_owner, frames_in, with_objects}
use Rattle.definition.specs.Broken.{broken}
use Rattle.definition.specs.Calls.{Given, Done, done, carried, closed, progressed, sweep_rows, start_rows, step_task, step_on, step_rows, step_tables, turn_of, turn, row_start, Call, call_start, call_sweep, perform}
use Rattle.definition.specs.Answers.{ok}
use Rattle.laws.specs.Objects.{existing-owned, unused-free, unused-lowest, made-there}
use Rattle.laws.specs.Refusals.{running}
use Rattle.laws.specs.Results.{bind_ok, ok-inj}
use Rattle.laws.specs.Sweeps.{member-either, link-names, reached-found, swept-row, swept, freed, sweep-keeps, sweep-left, sweep-freed, sweep-again, sweep-rests, sweep-none}
use Rattle.laws.specs.Wrapped.{wrap-broken, wrap-carried, Ok, ok_at, then}
use Rattle.layout.specs.OwnedRows.{put_owner-length, owners-behind, owners-past, owner-put, owner-past, swept-length}
use Rattle.layout.specs.Places.{write_rows-length}
use Rattle.unbroken.specs.Cut.{whole-traced}
use Rattle.layout.specs.ReadBack.{view-put}
use Rattle.layout.specs.Tests.{All, all_both}
use Rattle.layout.specs.Unbroken.{unbroken, broken-false}
use Rattle.layout.specs.View.{put_view, row-owner, sweep-writes}
use Rattle.layout.specs.Whole.{Local, ValueSound, Framed, Whole}
use Rattle.unbroken.specs.Calls.{rows_whole, step-whole}
use Rattle.unbroken.specs.Steps.{object-at}
use Rattle.unbroken.specs.Swept.{objects-whole}
use Rattle.unbroken.specs.WholeRows.{nth-there}
use Rattle.unbroken.specs.Unbroken.{shown, kept-unbroken}

-- all frames of both tasks
abbrev pub all_frames : Rows → List Frame
all_frames r = r.quote ++ r.report

-- Refused by 'broken' alone

pub sweep-refused : (t : Tables) → broken t ≡ true → perform call_sweep t ≡ done (Denied (Word 1)) t
unfolding perform
sweep-refused t h = wrap-broken Denied sweep_rows t h

module _ (t : Tables) (h : broken t ≡ false) where
  abbrev os : Objects
  os = (view t).objects

  abbrev fs : List Frame
  fs = all_frames (view t)

  abbrev after : Tables
  after = (perform call_sweep t).tables

  sweep-done : perform call_sweep t ≡ done (Swept (freed os fs)) (put (closed (with_objects (swept os fs) (view t))) t)
  unfolding perform
  sweep-done = wrap-carried Denied sweep_rows t h ∙ (unfold sweep_rows carried in refl)

  pub sweep-answers : (perform call_sweep t).answer ≡ Swept (freed os fs)
  sweep-answers = ap (λ (d : Done Reply). d.answer) sweep-done

  -- what the tables show: the objects that are left, no load that can be taken back, all else as it was
  pub sweep-shows : view after ≡ closed (with_objects (swept os fs) (view t))
  sweep-shows =
      let u = broken-false t h in
      ap (λ (d : Done Reply). view d.tables) sweep-done ∙ view-put (closed (with_objects (swept os fs) (view t))) t u.0 (whole-traced (with_objects (swept os fs) (view t)) [] (omega arith) (objects-whole (view t) u.1))

  left_is : (view after).objects ≡ swept os fs
  left_is = ap (λ (r : Rows). r.objects) sweep-shows

  -- in use afterwards exactly if it was and is reached
  pub sweep-keeps-it : (o : ℕ) (x : Object) → existing os o ≡ some x → Reached os fs o → existing (view after).objects o ≡ some x
  sweep-keeps-it o x e r = ap (λ (qs : Objects). existing qs o) left_is ∙ sweep-keeps os fs o x e r

  pub sweep-left-it : (o : ℕ) (x : Object) → existing (view after).objects o ≡ some x → (existing os o ≡ some x) × Reached os fs o
  sweep-left-it o x e = sweep-left os fs o x (sym (ap (λ (qs : Objects). existing qs o) left_is) ∙ e)

  -- the answer is the number of those freed
  pub sweep-counts : in_use os ≡ in_use (view after).objects + freed os fs
  sweep-counts = sweep-freed os fs ∙ ap (λ (qs : Objects). in_use qs + freed os fs) (sym left_is)

  -- no other table changes, nor any of the eight counts, nor any number of a row; no load can be taken back; an owner is as it was, or 0 where an object that isn't reached was freed
  pub record SweepLeaves : Type 0 where
    pub counts : (j : ℕ) → j < owners_cell → get_or after.counts j 0 ≡ get_or t.counts j 0
    pub owners : (o : ℕ) → o < object_limit → (owner_at after.counts o ≡ owner_at t.counts o) ⊎ ((owner_at after.counts o ≡ 0) × Exists os o × (Reached os fs o → ⊥))
    pub numbers : (j : ℕ) → tie_numbers_cell ≤ j → j < loads_cell → get_or after.counts j 0 ≡ get_or t.counts j 0
    pub loads : get_or after.counts loads_cell 0 ≡ 0
    pub trace : (j : ℕ) → trace_cell ≤ j → get_or after.counts j 0 ≡ get_or t.counts j 0
    pub classes : after.classes ≡ t.classes
    pub kept : after.kept ≡ t.kept
    pub cache : after.cache ≡ t.cache
    pub ties : after.ties ≡ t.ties
    pub subtypes : after.subtypes ≡ t.subtypes
    pub objects : after.objects ≡ t.objects
    pub frames : after.frames ≡ t.frames

  written : after ≡ tables (set (write_rows put_owner (swept os fs) 0 t.counts) loads_cell 0) t.classes t.kept t.cache t.ties t.subtypes t.objects t.frames
  unfolding view view_over
  written = ap (λ (d : Done Reply). d.tables) sweep-done ∙ sweep-writes (view_base t) t (reached os fs) (unbroken t h).counts.objects (unbroken t h).groups

  owner-read : (o : ℕ) (x : ObjectRow) → get_elem? os o ≡ some x → owner_of x ≡ owner_at t.counts o
  unfolding view view_over
  owner-read o x e = row-owner t (view_base t) o x e

  owner-left : (o : ℕ) → o < object_limit → (owner_at after.counts o ≡ owner_at t.counts o) ⊎ ((owner_at after.counts o ≡ 0) × Exists os o × (Reached os fs o → ⊥))
  owner-left o few = go (ltb o (length os)) refl
    where
      apart : owner_at (set (write_rows put_owner (swept os fs) 0 t.counts) loads_cell 0) o ≡ owner_at (write_rows put_owner (swept os fs) 0 t.counts) o
      apart = unfold owner_at in get_or-set_other (write_rows put_owner (swept os fs) 0 t.counts) loads_cell (owners_cell + o) 0 0 (λ e. omega arith)

      cell : owner_at after.counts o ≡ owner_at (write_rows put_owner (swept os fs) 0 t.counts) o
      cell = ap (λ (u : Tables). owner_at u.counts o) written ∙ apart

      row : (x : ObjectRow) → get_elem? os o ≡ some x → (u : Bool) → has eqb o (reached os fs) ≡ u → owner_of x ≡ owner_at t.counts o → owner_at after.counts o ≡ owner_of (pick u x free)
          → (owner_at after.counts o ≡ owner_at t.counts o) ⊎ ((owner_at after.counts o ≡ 0) × Exists os o × (Reached os fs o → ⊥))
      row x e true h q z = inl (z ∙ (unfold pick in q))
      row free e false h q z = inl (z ∙ (unfold pick in q))
      row (owned k y) e false h q z =
          inr (z ∙ (unfold pick owner_of in refl), (y, existing-owned os o k y e), λ r. false≢true (sym h ∙ reached-found os fs o r))

      go : (u : Bool) → ltb o (length os) ≡ u → (owner_at after.counts o ≡ owner_at t.counts o) ⊎ ((owner_at after.counts o ≡ 0) × Exists os o × (Reached os fs o → ⊥))
      go true l =
          let n = nth-there os o (ltb-true o (length os) l) in
          let s = swept-row (reached os fs) os o n.0 n.1 in
          let room = broken-false t h in
          row n.0 n.1 (has eqb o (reached os fs)) refl (owner-read o n.0 n.1)
          (cell ∙ owner-put (swept os fs) t.counts (omega (arith, swept-length (reached os fs) 0 os, room.1.limits.objects, room.0.counts)) o _ s)
      go false l = inl (cell ∙ owner-past (swept os fs) t.counts o (omega (arith, swept-length (reached os fs) 0 os, ltb-false o (length os) l)))

  pub sweep-tables : SweepLeaves
  sweep-tables = record {
    owners = owner-left;
    counts = λ j l. cell j (λ e. omega arith) ∙ owners-behind (swept os fs) 0 t.counts j l;
    numbers = λ j l m. cell j (λ e. omega arith) ∙ past j l;
    loads =
        ap (λ (u : Tables). get_or u.counts loads_cell 0) written
        ∙ get_or-set_same (write_rows put_owner (swept os fs) 0 t.counts) loads_cell 0 0
        (omega (arith, write_rows-length put_owner put_owner-length (swept os fs) 0 t.counts, (broken-false t h).0.counts));
    trace = λ j l. cell j (λ e. omega arith) ∙ past j (omega arith);
    classes = ap (λ (u : Tables). u.classes) written;
    kept = ap (λ (u : Tables). u.kept) written;
    cache = ap (λ (u : Tables). u.cache) written;
    ties = ap (λ (u : Tables). u.ties) written;
    subtypes = ap (λ (u : Tables). u.subtypes) written;
    objects = ap (λ (u : Tables). u.objects) written;
    frames = ap (λ (u : Tables). u.frames) written;
  }
    where
      cell : (j : ℕ) → j ≢ loads_cell → get_or after.counts j 0 ≡ get_or (write_rows put_owner (swept os fs) 0 t.counts) j 0
      cell j n = ap (λ (u : Tables). get_or u.counts j 0) written ∙ get_or-set_other (write_rows put_owner (swept os fs) 0 t.counts) loads_cell j 0 0 n

      past : (j : ℕ) → tie_numbers_cell ≤ j → get_or (write_rows put_owner (swept os fs) 0 t.counts) j 0 ≡ get_or t.counts j 0
      past j l = owners-past (swept os fs) 0 t.counts j (omega (arith, swept-length (reached os fs) 0 os, (broken-false t h).1.limits.objects))

  -- where no task has a frame, no object is left
  pub sweep-empties : (view t).quote ≡ [] → (view t).report ≡ [] → (o : ℕ) → existing (view after).objects o ≡ none
  sweep-empties q p o =
      ap (λ (qs : Objects). existing qs o) left_is ∙ (ap (λ (gs : List Frame). existing (swept os gs) o) (λ i. q i ++ p i) ∙ sweep-none os o)

-- a second sweep frees none, and leaves every table
pub sweep-twice : (t : Tables) (h : broken t ≡ false) → perform call_sweep (perform call_sweep t).tables ≡ done (Swept 0) (perform call_sweep t).tables
sweep-twice t h =
    let u : Tables = (perform call_sweep t).tables in
    let b : broken u ≡ false = kept-unbroken call_sweep t h in
    let s : view u ≡ closed (with_objects (swept (view t).objects (all_frames (view t))) (view t)) = sweep-shows t h in
    let none : freed (view u).objects (all_frames (view u)) ≡ 0 = ap (λ (r : Rows). freed r.objects (all_frames r)) s ∙ sweep-rests (view t).objects (all_frames (view t)) in
    let same : closed (with_objects (swept (view u).objects (all_frames (view u))) (view u)) ≡ view u =
    ap (λ (r : Rows). closed (with_objects (swept r.objects (all_frames r)) r)) s
    ∙ (ap (λ (qs : Objects). closed (with_objects qs (view t))) (sweep-again (view t).objects (all_frames (view t))) ∙ sym s) in
    sweep-done u b ∙ λ i. done (Swept (none i)) ((ap (λ (r : Rows). put r u) same ∙ put_view u (unbroken u b).groups) i)

-- No place names an object that doesn't exist, of rows that are whole: a freed number stands nowhere

module _ (X : ℕ → Type 0) where
  value-names : (vs : List Value) → All (ValueSound X) vs → (o : ℕ) → Memᴰ o (named vs) → X o
  unfolding named
  value-names [] h o m = absurd (Memᴰ.not-nil m)
  value-names (empty_value ∷ vs) h o m = value-names vs h.1 o m
  value-names (int_value n ∷ vs) h o m = value-names vs h.1 o m
  value-names (null_value ∷ vs) h o m = value-names vs h.1 o m
  value-names (object_value p ∷ vs) h o (Memᴰ.head e) = subst X (sym e) h.0
  value-names (object_value p ∷ vs) h o (Memᴰ.tail m) = value-names vs h.1 o m
  value-names (unlisted_value a b ∷ vs) h o m = value-names vs h.1 o m

  local-names : (vs : List Value) → All (Local X) vs → (o : ℕ) → Memᴰ o (named vs) → X o
  unfolding named
  local-names [] h o m = absurd (Memᴰ.not-nil m)
  local-names (empty_value ∷ vs) h o m = local-names vs h.1 o m
  local-names (int_value n ∷ vs) h o m = local-names vs h.1 o m
  local-names (null_value ∷ vs) h o m = local-names vs h.1 o m
  local-names (object_value p ∷ vs) h o (Memᴰ.head e) = subst X (sym e) h.0
  local-names (object_value p ∷ vs) h o (Memᴰ.tail m) = local-names vs h.1 o m
  local-names (unlisted_value a b ∷ vs) h o m = local-names vs h.1 o m

  frame-names : (n : ℕ) (gs : List Frame) → All (Framed n X) gs → (o : ℕ) → Memᴰ o (roots gs) → X o
  unfolding roots
  frame-names n [] h o m = absurd (Memᴰ.not-nil m)
  frame-names n (f ∷ gs) h o m = elim (member-either (named f.operands) _ m) [
    | inl a ↦ value-names f.operands h.0.operands o a
    | inr b ↦ elim (member-either (named f.locals) (roots gs) b) [ inl a ↦ local-names f.locals h.0.locals o a | inr c ↦ frame-names n gs h.1 o c ]
  ]

module _ (r : Rows) (w : Whole r) where
  pub root-exists : (o : ℕ) → Memᴰ o (roots (all_frames r)) → Exists r.objects o
  root-exists o m =
      frame-names (Exists r.objects) (length r.classes) (all_frames r)
      (all_both (Framed (length r.classes) (Exists r.objects)) r.quote r.report w.quote w.report) o m

  pub field-exists : (p : ℕ) (x : Object) → existing r.objects p ≡ some x → (o : ℕ) → Memᴰ o (named x.values) → Exists r.objects o
  field-exists p x e o m =
      value-names (Exists r.objects) x.values
      (object-at (world_of r).base (length r.classes) (Exists r.objects) r.objects w.objects p x e).values o m

  chain-exists : (a b : ℕ) → Chain (links r.objects) a b → Memᴰ a (roots (all_frames r)) → Exists r.objects b
  chain-exists a b (stay e) m = subst (Exists r.objects) e (root-exists a m)
  chain-exists a b (hop {b = c} h l) m = let n = link-names r.objects c b l in field-exists c n.0 n.1 b n.2

  -- what is reached exists
  pub reached-exists : (o : ℕ) → Reached r.objects (all_frames r) o → Exists r.objects o
  reached-exists o h = chain-exists h.root o h.chain h.is_root

-- object o is named by a place: an operand or a local of a frame, or a field of an object that exists
abbrev pub Names : Rows → ℕ → Type 0
Names r o = Memᴰ o (roots (all_frames r)) ⊎ ((p : ℕ) × (x : Object) × (existing r.objects p ≡ some x) × Memᴰ o (named x.values))

-- no place holds a freed object, after any call on tables that aren't broken
pub named-exists : (c : Call) (t : Tables) → broken t ≡ false → (o : ℕ) → Names (view (perform c t).tables) o → Exists (view (perform c t).tables).objects o
named-exists c t h o n = go (broken-false (perform c t).tables (kept-unbroken c t h)).1 n
  where
    r : Rows
    r = view (perform c t).tables

    go : Whole r → Names r o → Exists r.objects o
    go w (inl m) = root-exists r w o m
    go w (inr (p, x, e, m)) = field-exists r w p x e o m

-- The number that an object gets

-- task k made an object, number o: unused before, every lower number in use
pub record Takes (k : ℕ) (os qs : Objects) (o : ℕ) : Type 0 where
  pub object : Object
  pub is : qs ≡ made k object os
  pub there : existing qs o ≡ some object
  pub was_free : existing os o ≡ none
  pub lowest : (p : ℕ) → p < o → Exists os p

takes-made : (k : ℕ) (x : Object) (os : Objects) → Takes k os (made k x os) (unused os)
takes-made k x os = record { object = x; is = refl; there = made-there k x os; was_free = unused-free os; lowest = unused-lowest os }

-- of a start that is accepted, `this` of the first frame has it

abbrev pub Begun : ℕ → ℕ → Rows → Rows → Type 0
Begun k v r s = Takes k r.objects s.objects (unused r.objects) × ((c : ℕ) × (j : ℕ) × (frames_in k s ≡ entry_frame c j (unused r.objects) (int_value v ∷ []) ∷ []))

begun-rows : (k l n m v : ℕ) (r : Rows) → Ok (start_rows k l n m v r) (λ g. Begun k v r g.rows)
unfolding start_rows started
begun-rows k l n m v r = then G _ _ (λ _ _. then G _ _ (λ o e. let q = ok_at Q _ all o e in (q.0, (q.1.0, q.1.1, frames-of k o ∙ q.1.2))))
  where
    G : Given Reply → Type 0
    G g = Begun k v r g.rows

    Q : Progress → Type 0
    Q o = Takes k r.objects o.objects (unused r.objects) × ((c : ℕ) × (j : ℕ) × (o.frames ≡ entry_frame c j (unused r.objects) (int_value v ∷ []) ∷ []))

    frames-of : (k : ℕ) (o : Progress) → frames_in k (progressed k r o) ≡ o.frames
    frames-of zero o = refl
    frames-of (suc k) o = refl

    all : Ok (started k l n m v (world_of r) r.objects (frames_in k r)) Q
    all = then Q _ _ (λ _ _. then Q _ _ (λ _ _. then Q _ _ (λ c _. then Q _ _ (λ s _. then Q _ _ (λ _ _. then Q _ _ (λ _ _.
        (takes-made k (new_object (world_of r).base c) r.objects, (s.class, s.place, refl))))))))

pub start-takes : (k l n m v : ℕ) (t : Tables) → (perform (call_start k l n m v) t).answer ≡ Accepted → Begun k v (view t) (view (perform (call_start k l n m v) t).tables)
unfolding perform
start-takes k l n m v t = shown Denied (start_rows k l n m v) (λ a s. a ≡ Accepted → Begun k v (view t) s) t (λ r w. rows_whole r w (row_start k l n m v))
    (λ w e. let z : ◌≡◌ {A = ℕ} 0 1 = cc in absurd (omega arith))
    (λ _ g e _. ok_at (λ (g : Given Reply). Begun k v (view t) g.rows) _ (begun-rows k l n m v (view t)) g e)

-- of a new that ran, the operand that it pushes

pushed-rows : (task : ℕ) (w : World) (os : Objects) (f : Frame) (fs : List Frame) (k : Class) (i : Decoded) (c : ℕ)
    → Ok (execute task w os f fs k i (New c)) (λ o. Takes task os o.objects (unused os) × (o.frames ≡ past f i (object_value (unused os) ∷ f.operands) f.locals ∷ fs))
unfolding execute
pushed-rows task w os f fs k i c = then Q _ _ (λ e _. then Q _ _ (λ _ _. then Q _ _ (λ _ _. (takes-made task (new_object w.base e) os, refl))))
  where
    Q : Progress → Type 0
    Q o = Takes task os o.objects (unused os) × (o.frames ≡ past f i (object_value (unused os) ∷ f.operands) f.locals ∷ fs)

-- the frame whose turn it is, and the instruction that it reads
pub record Turns (t : Tables) (f : Frame) (fs : List Frame) (n : Now) : Type 0 where
  pub frames : running (view t).quote (view t).report ≡ f ∷ fs
  pub reads : now (world_of (view t)) f ≡ ok n

-- the frames that a step leaves its task
pub progressed-frames : (j : ℕ) (r : Rows) (o : Progress) → frames_in j (progressed j r o) ≡ o.frames
progressed-frames zero r o = refl
progressed-frames (suc j) r o = refl

-- what holds of what the instruction leaves holds of what the tables show after a step that ran
pub ran-shows : (t : Tables) (f : Frame) (fs : List Frame) (n : Now) (k : ℕ) (P : Rows → Type 0) → Turns t f fs n → (step_tables t).answer ≡ Ran k
    → (Whole (view t) → (o : Progress) → execute (turn (view t)) (world_of (view t)) (view t).objects f fs n.the_class n.at n.at.instruction ≡ ok o → P (closed (progressed (turn (view t)) (view t) o)))
    → P (view (step_tables t).tables)
unfolding step_tables step_rows step_on step_task step turn turn_of
ran-shows t f fs n k P r ran h = shown Refused step_rows (λ a s. a ≡ Ran k → P s) t step-whole (λ w e. let z : ◌≡◌ {A = ℕ} 0 1 = cc in absurd (omega arith))
    (λ w g e _. go w (view t).quote (view t).report refl r.frames g e) ran
  where
    task : Whole (view t) → (j : ℕ) → turn (view t) ≡ j → (g : Given Answer) → step_task j (world_of (view t)) f fs (view t) ≡ ok g → P g.rows
    task w j q g e =
        let a = bind_ok _ _ e in
        let b = bind_ok _ _ a.1 in
        let same : b.0 ≡ n = ok-inj (sym b.1 ∙ r.reads) in
        let did : execute j (world_of (view t)) (view t).objects f fs n.the_class n.at n.at.instruction ≡ ok a.0 =
        subst (λ (x : Now). execute j (world_of (view t)) (view t).objects f fs x.the_class x.at x.at.instruction ≡ ok a.0) same b.2 in
        subst P (ap (λ (x : Given Answer). x.rows) (ok-inj a.2))
        (subst (λ (x : ℕ). P (closed (progressed x (view t) a.0))) q
        (h w a.0 (subst (λ (x : ℕ). execute x (world_of (view t)) (view t).objects f fs n.the_class n.at n.at.instruction ≡ ok a.0) (sym q) did)))

    go : Whole (view t) → (q p : List Frame) → (view t).quote ≡ q → running q p ≡ f ∷ fs → (g : Given Answer) → step_on q p (world_of (view t)) (view t) ≡ ok g → P g.rows
    go w (h ∷ hs) p x z g e = task w 0 (ap turn_of x) g (subst (λ (us : List Frame). step_on us p (world_of (view t)) (view t) ≡ ok g) z e)
    go w [] (h ∷ hs) x z g e = task w 1 (ap turn_of x) g (subst (λ (us : List Frame). step_on [] us (world_of (view t)) (view t) ≡ ok g) z e)
    go w [] [] x z g e = absurd (let l : length {A = Frame} [] ≡ length (f ∷ fs) = ap length z in omega arith)

pub new-takes : (t : Tables) (f : Frame) (fs : List Frame) (n : Now) (c k : ℕ) → Turns t f fs n → n.at.instruction ≡ New c → (step_tables t).answer ≡ Ran k
    → Takes (turn (view t)) (view t).objects (view (step_tables t).tables).objects (unused (view t).objects)
    × (frames_in (turn (view t)) (view (step_tables t).tables) ≡ past f n.at (object_value (unused (view t).objects) ∷ f.operands) f.locals ∷ fs)
new-takes t f fs n c k r i ran = ran-shows t f fs n k
    (λ s. Takes (turn (view t)) (view t).objects s.objects (unused (view t).objects)
    × (frames_in (turn (view t)) s ≡ past f n.at (object_value (unused (view t).objects) ∷ f.operands) f.locals ∷ fs)) r ran
    (λ _ o e.
    let m = ok_at (λ (o : Progress). Takes (turn (view t)) (view t).objects o.objects (unused (view t).objects) × (o.frames ≡ past f n.at (object_value (unused (view t).objects) ∷ f.operands) f.locals ∷ fs)) _
    (pushed-rows (turn (view t)) (world_of (view t)) (view t).objects f fs n.the_class n.at c) o
    (subst (λ (x : Instruction). execute (turn (view t)) (world_of (view t)) (view t).objects f fs n.the_class n.at x ≡ ok o) i e) in
    (m.0, progressed-frames (turn (view t)) (view t) o ∙ m.1))
