-- What lasts of fields (paper 6): no call but a boot or a sweep changes a field of an object, save by a putfield whose resolution finds the class that declares it (`fields-last`, `fields-last-all`). So what a
-- putfield wrote, a getfield by the same class reads, whatever calls stand between (`written_read`), and an access by another class, name or type neither changes nor sees it (`others_apart`).
use Rattle.std.specs.Prelude.{◌≡◌, Bool, true, false, ◌⊎◌, ℕ, ◌<◌, ◌≤◌, eqb}
use Rattle.std.proofs.Math.Path.{refl, ap, subst}
use Rattle.std.proofs.Common.{sym, ◌∙◌, arith, eqb-true}
use Rattle.std.proofs.Math.Option.{Option, none, some, none-ne-some, some-injective}
use mathlib.Core.List.{List, [], ◌∷◌}
use Rattle.std.proofs.Math.Logic.{inl, inr}
use Rattle.std.proofs.Math.ListN.{get_elem?}
use Rattle.std.proofs.lemmas.List.{length-map}
use Rattle.std.proofs.lemmas.Bool.{eqb-false}
use Rattle.definition.specs.declared.Answer.{Answer}
use Rattle.definition.specs.declared.Answer.TheVariants.{Ran, Refused}
use Rattle.definition.specs.declared.Reply.{Reply}
use Rattle.definition.specs.declared.Reply.TheVariants.{Denied}
use Rattle.definition.specs.declared.Instruction.{Instruction}
use Rattle.definition.specs.declared.Instruction.TheVariants.{AconstNull, Sipush, Load, Store, Pop, Dup, Arithmetic, Getfield, Putfield, Invokevirtual, New, Return, Branch}
use Rattle.definition.specs.Lists.{index_of}
use Rattle.definition.specs.Maybe.{need}
use Rattle.definition.specs.Superclasses.{Below, same, up, below}
use Rattle.definition.specs.Classes.{Base, Class, own_slots, slot_is, slots, super_of}
use Rattle.definition.specs.Constraints.{World}
use Rattle.definition.specs.Instructions.{Decoded}
use Rattle.definition.specs.Machine.{Value, object_value, Object, Objects, existing, Frame, Progress, Now, execute, give, step}
use Rattle.definition.specs.Loading.{started}
use Rattle.definition.specs.Tables.{Tables, Level, Rows, class_at, cut_to, world_of, frames_in, view}
use Rattle.definition.specs.Calls.{Given, taken_back, call_take_back, define_rows, record_rows, start_rows, drop_rows, step_task, step_on, step_rows, step_tables, turn, RowCall, row_define, row_record, row_start, row_drop, row_sweep, row_try, row_take_back, on_row_call, Call, call_boot, call_rows, call_step, call_run, perform, perform_all}
use Rattle.definition.specs.Answers.{ok}
use Rattle.laws.specs.Agreement.{super-falls, super-is}
use Rattle.laws.specs.FieldPlaces.{place_of}
use Rattle.laws.specs.Objects.{made-keeps}
use Rattle.laws.specs.Options.{bind-some, some-bind, need-true}
use Rattle.laws.specs.Refusals.{running}
use Rattle.laws.specs.Results.{bind_ok, ok-inj}
use Rattle.laws.specs.Runs.{after, run-keeps-unless}
use Rattle.laws.specs.Slots.{slots-none}
use Rattle.laws.specs.Tried.{try-leaves}
use Rattle.laws.specs.Upward.{below_true, below-le}
use Rattle.laws.specs.Growth.{nth-lt}
use Rattle.laws.specs.Wrapped.{Ok, ok_at, then}
use Rattle.layout.specs.Tests.{All}
use Rattle.layout.specs.Whole.{Whole}
use Rattle.unbroken.specs.Calls.{step-whole, rows_whole}
use Rattle.unbroken.specs.HiddenFields.{field_in, field_of, Resolved, SameField, Put, PutRows, put-rows, getfield-reads, putfield-writes}
use Rattle.unbroken.specs.Lasting.{UnloadsRows, FreesRows, Frees}
use Rattle.unbroken.specs.Resolution.{There, Resolves, cut-resolves, resolution-lasts}
use Rattle.unbroken.specs.Steps.{object-at}
use Rattle.unbroken.specs.Sweeping.{Turns}
use Rattle.unbroken.specs.Unbroken.{shown, shown-traced}
use Rattle.unbroken.specs.Cut.{cut-whole}
use Rattle.unbroken.specs.WholeRows.{nth-there}
use Rattle.layout.specs.Traced.{EachTurn, Leaves}

-- every object that exists stays as it is, class and every field
abbrev Stays : Objects → Objects → Type 0
Stays os qs = (o : ℕ) (x : Object) → existing os o ≡ some x → existing qs o ≡ some x

-- What an instruction but a putfield leaves

abbrev Puts : Instruction → Type 0
Puts j = (c : ℕ) × (n : ℕ) × (t : ℕ) × (j ≡ Putfield c n t)

module _ (task : ℕ) (w : World) (os : Objects) (f : Frame) (fs : List Frame) (k : Class) (i : Decoded) where
  abbrev Q : Progress → Type 0
  Q o = Stays os o.objects

  idle : Stays os os
  idle o x e = e

  gives : (gs : List Frame) (v : Value) → Ok (give gs w os v) Q
  unfolding give
  gives [] v = then Q _ _ (λ _ _. idle)
  gives (g ∷ gs) v = idle

  puts-or-stays : (j : Instruction) → Puts j ⊎ Ok (execute task w os f fs k i j) Q
  unfolding execute
  puts-or-stays AconstNull = inr (then Q _ _ (λ _ _. idle))
  puts-or-stays (Sipush n) = inr (then Q _ _ (λ _ _. idle))
  puts-or-stays (Load kind j) = inr (then Q _ _ (λ _ _. then Q _ _ (λ _ _. then Q _ _ (λ _ _. idle))))
  puts-or-stays (Store kind j) = inr (then Q _ _ (λ _ _. then Q _ _ (λ _ _. then Q _ _ (λ _ _. idle))))
  puts-or-stays Pop = inr (then Q _ _ (λ _ _. idle))
  puts-or-stays Dup = inr (then Q _ _ (λ _ _. then Q _ _ (λ _ _. idle)))
  puts-or-stays (Arithmetic o) = inr (then Q _ _ (λ _ _. then Q _ _ (λ _ _. then Q _ _ (λ _ _. then Q _ _ (λ _ _. then Q _ _ (λ _ _. idle))))))
  puts-or-stays (Getfield c n t) = inr (then Q _ _ (λ _ _. then Q _ _ (λ _ _. then Q _ _ (λ _ _. then Q _ _ (λ _ _. then Q _ _ (λ _ _. then Q _ _ (λ _ _. then Q _ _ (λ _ _. idle))))))))
  puts-or-stays (Putfield c n t) = inl (c, n, t, refl)
  puts-or-stays (Invokevirtual c s) = inr (then Q _ _ (λ _ _. then Q _ _ (λ _ _. then Q _ _ (λ _ _. then Q _ _ (λ _ _. then Q _ _ (λ _ _. then Q _ _ (λ _ _. then Q _ _ (λ _ _. then Q _ _ (λ _ _. idle)))))))))
  puts-or-stays (New c) = inr (then Q _ _ (λ _ _. then Q _ _ (λ _ _. then Q _ _ (λ _ _. made-keeps task _ os))))
  puts-or-stays (Branch c p) = inr (then Q _ _ (λ _ _. idle))
  puts-or-stays (Return kind) = inr (then Q _ _ (λ _ _. then Q _ _ (λ p _. then Q _ _ (λ _ _. gives fs p.top))))

-- A step

-- the frame whose turn it is stands at a putfield on object o whose resolution finds class d for name n and type t
pub record Writes (t : Tables) (o d n u : ℕ) : Type 0 where
  pub frame : Frame
  pub others : List Frame
  pub reads : Now
  pub turns : Turns t frame others reads
  pub class : ℕ
  pub puts : reads.at.instruction ≡ Putfield class n u
  pub resolved : Resolved (world_of (view t)).base reads.the_class.loader class n u d
  pub value : Value
  pub rest : List Value
  pub operands : frame.operands ≡ value ∷ object_value o ∷ rest

-- objects that stay have the fields that they had
stays-field : (b : Base) (os qs : Objects) → Stays os qs → (o d n u : ℕ) (v : Value) → field_in b os o d n u ≡ some v → field_in b qs o d n u ≡ some v
unfolding field_in
stays-field b os qs s o d n u v h = let a = bind-some (existing os o) _ h in some-bind _ _ (s o a.0 a.1) a.2

same-field : (o d n u p e m w : ℕ) → SameField o d n u p e m w ⊎ (SameField o d n u p e m w → ⊥)
same-field o d n u p e m w = go (eqb o p) refl (eqb d e) refl (eqb n m) refl (eqb u w) refl
  where
    go : (a : Bool) → eqb o p ≡ a → (b : Bool) → eqb d e ≡ b → (c : Bool) → eqb n m ≡ c → (f : Bool) → eqb u w ≡ f → SameField o d n u p e m w ⊎ (SameField o d n u p e m w → ⊥)
    go false a b _ c _ f _ = inr (λ s. eqb-false o p a s.0)
    go true a false b c _ f _ = inr (λ s. eqb-false d e b s.1)
    go true a true b false c f _ = inr (λ s. eqb-false n m c s.2)
    go true a true b true c false f = inr (λ s. eqb-false u w f s.3)
    go true a true b true c true f = inl (eqb-true o p a, eqb-true d e b, eqb-true n m c, eqb-true u w f)

module _ (t : Tables) (o d n u : ℕ) (v : Value) (h : field_of t o d n u ≡ some v) where
  abbrev Kept : Rows → Type 0
  Kept s = (field_in (world_of s).base s.objects o d n u ≡ some v) ⊎ Writes t o d n u

  step-rows : Whole (view t) → (g : Given Answer) → step_rows (view t) ≡ ok g → Kept g.rows
  unfolding step_rows step_on step_task step
  step-rows w g = go (view t).quote (view t).report refl
    where
      put : (f : Frame) (fs : List Frame) (m : Now) (q : Progress) (c x y : ℕ) → Turns t f fs m → m.at.instruction ≡ Putfield c x y
          → PutRows 0 (world_of (view t)) (view t).objects f fs m.the_class m.at c x y q → (field_in (world_of (view t)).base q.objects o d n u ≡ some v) ⊎ Writes t o d n u
      put f fs m q c x y r i p = elim (same-field o d n u p.object p.declarer x y) [
        | inl s ↦ inr (record {
          frame = f;
          others = fs;
          reads = m;
          turns = r;
          class = c;
          puts = i ∙ (λ z. Putfield c (sym s.2 z) (sym s.3 z));
          resolved = subst (λ (e : ℕ). Resolved (world_of (view t)).base m.the_class.loader c n u e) (sym s.1)
              (subst (λ (e : ℕ). Resolved (world_of (view t)).base m.the_class.loader c n e p.declarer) (sym s.3)
              (subst (λ (e : ℕ). Resolved (world_of (view t)).base m.the_class.loader c e y p.declarer) (sym s.2) p.resolved));
          value = p.value;
          rest = p.others;
          operands = p.operands ∙ ap (λ (e : ℕ). p.value ∷ object_value e ∷ p.others) (sym s.0);
        })
        | inr s ↦ inl (p.kept o d n u s ∙ h)
      ]

      task : (j : ℕ) (f : Frame) (fs : List Frame) → running (view t).quote (view t).report ≡ f ∷ fs → step_task j (world_of (view t)) f fs (view t) ≡ ok g → Kept g.rows
      task j f fs z e =
          let a = bind_ok _ _ e in
          let b = bind_ok _ _ a.1 in
          let r : Turns t f fs b.0 = record { frames = z; reads = b.1 } in
          subst Kept (ap (λ (x : Given Answer). x.rows) (ok-inj a.2)) (elim (puts-or-stays j (world_of (view t)) (view t).objects f fs b.0.the_class b.0.at b.0.at.instruction) [
            | inl p ↦ put f fs b.0 a.0 p.0 p.1 p.2 r p.3
                (ok_at (PutRows j (world_of (view t)) (view t).objects f fs b.0.the_class b.0.at p.0 p.1 p.2) _
                (put-rows j (world_of (view t)) (view t).objects f fs b.0.the_class b.0.at p.0 p.1 p.2 (λ q x k. (object-at _ _ _ (view t).objects w.objects q x k).size)) a.0
                (subst (λ (x : Instruction). execute j (world_of (view t)) (view t).objects f fs b.0.the_class b.0.at x ≡ ok a.0) p.3 b.2))
            | inr s ↦ inl (stays-field _ (view t).objects a.0.objects (ok_at (λ (x : Progress). Stays (view t).objects x.objects) _ s a.0 b.2) o d n u v h)
          ])

      go : (q p : List Frame) → running (view t).quote (view t).report ≡ running q p → step_on q p (world_of (view t)) (view t) ≡ ok g → Kept g.rows
      go (f ∷ fs) p z e = task 0 f fs z e
      go [] (f ∷ fs) z e = task 1 f fs z e
      go [] [] z e = subst Kept (ap (λ (x : Given Answer). x.rows) (ok-inj e)) (inl h)

  -- a step keeps the field, or it writes it
  pub step_field : (field_of (step_tables t).tables o d n u ≡ some v) ⊎ Writes t o d n u
  unfolding step_tables
  step_field = shown Refused step_rows (λ _ s. Kept s) t step-whole (λ _. inl h) (λ w g e. step-rows w g e)

-- Calls on rows: they find fields as before, and objects stay

taken-stay : (ls : List Level) (r : Rows) → Ok (taken_back ls r) (λ g. Stays r.objects g.rows.objects)
unfolding taken_back cut_to
taken-stay [] r = tt
taken-stay (l ∷ ls) r = λ o x e. e

rows_stay : (c : RowCall) → (FreesRows c → ⊥) → (r : Rows) → Ok (on_row_call c r) (λ g. Stays r.objects g.rows.objects)
unfolding define_rows record_rows start_rows drop_rows started
rows_stay (row_define l bs) h r = then G _ _ (λ _ _. then G _ _ (λ _ _. then G _ _ (λ _ _ o x e. e)))
  where
    G : Given Reply → Type 0
    G g = Stays r.objects g.rows.objects
rows_stay (row_record l n c) h r = then (λ (g : Given Reply). Stays r.objects g.rows.objects) _ _ (λ _ _ o x e. e)
rows_stay (row_start k l n m v) h r = then G _ _ (λ _ _. then G _ _ (λ p q. ok_at (λ (p : Progress). Stays r.objects p.objects) _ all p q))
  where
    G : Given Reply → Type 0
    G g = Stays r.objects g.rows.objects

    Q : Progress → Type 0
    Q p = Stays r.objects p.objects

    all : Ok (started k l n m v (world_of r) r.objects (frames_in k r)) Q
    all = then Q _ _ (λ _ _. then Q _ _ (λ _ _. then Q _ _ (λ _ _. then Q _ _ (λ _ _. then Q _ _ (λ _ _. then Q _ _ (λ _ _. made-keeps k _ r.objects))))))
rows_stay (row_drop k) h r = then (λ (g : Given Reply). Stays r.objects g.rows.objects) _ _ (λ _ _ o x e. e)
rows_stay row_sweep h r = absurd (h tt)
rows_stay (row_try c n) h r = try-leaves (λ s. Stays r.objects s.objects) c n r (λ o x e. e)
rows_stay row_take_back h r = taken-stay r.trace r

-- a class that declares a field is there, and so is each below it
place-there : (b : Base) (d n u j : ℕ) → place_of b d n u ≡ some j → There b d
unfolding index_of super_of own_slots
place-there b d n u j h = go (get_elem? b.classes d) refl
  where
    go : (o : Option Class) → get_elem? b.classes d ≡ o → There b d
    go none e =
        let z : slots b d ≡ [] = slots-none b d (rw (e, super_of) refl) ∙ rw (e, own_slots) refl in
        absurd (none-ne-some j (sym (ap (index_of (slot_is d n u)) z) ∙ h))
    go (some k) e = (k, e)

below-there : (b : Base) {c d : ℕ} → Below (super_of b) c d → There b d → There b c
below-there b (same q) h = rw q h
below-there b (up {c} {p} e l) h = let s = super-is b c p e in (s.the_class, s.is_class)

later-field : (b e : Base) (os qs : Objects) → Resolves b e → Stays os qs → (o d n u : ℕ) (v : Value) → field_in b os o d n u ≡ some v → field_in e qs o d n u ≡ some v
unfolding field_in need
later-field b e os qs r s o d n u v h =
    let x = bind-some (existing os o) _ h in
    let y = bind-some (need (below (super_of b) x.0.class d)) _ x.2 in
    let z = bind-some (place_of b d n u) _ y.2 in
    let under = need-true _ y.1 in
    let there = place-there b d n u z.0 z.1 in
    some-bind _ _ (s o x.0 x.1)
    (some-bind _ _ (rw (r.is_below x.0.class d (below-there b (below_true (super_of b) (super-falls b) x.0.class d under) there) ∙ under) refl)
    (some-bind _ _ (ap (index_of (slot_is d n u)) (r.fields d there) ∙ z.1) z.2))

-- Of a taking back: each object's class is still there, so its fields stand where they stood

front-field : (b e : Base) (os : Objects) → Resolves b e → ((o : ℕ) (x : Object) → existing os o ≡ some x → There b x.class)
    → (o d n u : ℕ) (v : Value) → field_in e os o d n u ≡ some v → field_in b os o d n u ≡ some v
unfolding field_in need
front-field b e os r classes o d n u v h =
    let x = bind-some (existing os o) _ h in
    let y = bind-some (need (below (super_of e) x.0.class d)) _ x.2 in
    let z = bind-some (place_of e d n u) _ y.2 in
    let mine = classes o x.0 x.1 in
    let under : below (super_of b) x.0.class d ≡ true = sym (r.is_below x.0.class d mine) ∙ need-true _ y.1 in
    let low : d ≤ x.0.class = below-le (super-falls b) (below_true (super_of b) (super-falls b) x.0.class d under) in
    let there : There b d = nth-there b.classes d (omega (arith, low, nth-lt b.classes x.0.class mine.0 mine.1)) in
    some-bind _ _ x.1 (some-bind _ _ (rw under refl) (some-bind _ _ (sym (ap (index_of (slot_is d n u)) (r.fields d there)) ∙ z.1) z.2))

taken-field : (t : Tables) (o d n u : ℕ) (v : Value) → field_of t o d n u ≡ some v → field_of (perform call_take_back t).tables o d n u ≡ some v
unfolding perform
taken-field t o d n u v h = shown-traced Denied (on_row_call row_take_back) (λ _ s. field_in (world_of s).base s.objects o d n u ≡ some v) t (λ r w. rows_whole r w row_take_back) (λ _. h)
    (λ w b g e. ok_at (λ (g : Given Reply). field_in (world_of g.rows).base g.rows.objects o d n u ≡ some v) _ (back w (view t).trace b) g e)
  where
    r : Rows
    r = view t

    mine : (l : Level) → Whole (cut_to l r) → (p : ℕ) (x : Object) → existing (cut_to l r).objects p ≡ some x → There (world_of (cut_to l r)).base x.class
    mine l c p x e =
        nth-there (world_of (cut_to l r)).base.classes x.class
        (omega (arith, (object-at _ _ _ (cut_to l r).objects c.objects p x e).class, length-map (cut_to l r).classes (class_at (cut_to l r).kept)))

    back : Whole r → (ls : List Level) → EachTurn Leaves ls r → Ok (taken_back ls r) (λ g. field_in (world_of g.rows).base g.rows.objects o d n u ≡ some v)
    back w [] b = unfold taken_back in tt
    back w (l ∷ ls) b = unfold taken_back in
        front-field (world_of (cut_to l r)).base (world_of r).base (cut_to l r).objects (cut-resolves l r b.0.1) (mine l (cut-whole l r b.0.1 b.0.0 w)) o d n u v (unfold cut_to in h)

unloads-or : (c : RowCall) → (UnloadsRows c → ⊥) ⊎ (c ≡ row_take_back)
unloads-or (row_define l bs) = inl (λ i. i)
unloads-or (row_record l n c) = inl (λ i. i)
unloads-or (row_start k l n m v) = inl (λ i. i)
unloads-or (row_drop k) = inl (λ i. i)
unloads-or row_sweep = inl (λ i. i)
unloads-or (row_try c n) = inl (λ i. i)
unloads-or row_take_back = inr refl

-- Every call

-- the call is a step that writes the field, or a run that has such a step
abbrev pub WrittenBy : Call → Tables → ℕ → ℕ → ℕ → ℕ → Type 0
WrittenBy call_boot t o d n u = ⊥
WrittenBy (call_rows c) t o d n u = ⊥
WrittenBy call_step t o d n u = Writes t o d n u
WrittenBy (call_run m) t o d n u = (i : ℕ) × (i < m) × Writes (after step_tables i t) o d n u

pub fields-last : (c : Call) → (Frees c → ⊥) → (t : Tables) (o d n u : ℕ) (v : Value) → field_of t o d n u ≡ some v → (field_of (perform c t).tables o d n u ≡ some v) ⊎ WrittenBy c t o d n u
fields-last call_boot f t o d n u v h = absurd (f tt)
fields-last (call_rows c) f t o d n u v h = inl (elim (unloads-or c) [
  | inr e ↦ rw e (taken-field t o d n u v h)
  | inl i ↦
      let s : Stays (view t).objects (view (perform (call_rows c) t).tables).objects = (unfold perform in shown Denied (on_row_call c) (λ _ s. Stays (view t).objects s.objects) t (λ r w. rows_whole r w c) (λ _ o x e. e)
      (λ _ g e. ok_at (λ (g : Given Reply). Stays (view t).objects g.rows.objects) _ (rows_stay c f (view t)) g e)) in
      later-field _ _ (view t).objects (view (perform (call_rows c) t).tables).objects (resolution-lasts (call_rows c) i t) s o d n u v h
])
fields-last call_step f t o d n u v h = unfold perform in step_field t o d n u v h
fields-last (call_run m) f t o d n u v h = unfold perform in run-keeps-unless (λ s. field_of s o d n u ≡ some v) (λ s. Writes s o d n u) (λ s k. step_field s o d n u v k) m t h

-- one of the calls, each on what those before it left
abbrev pub WrittenIn : List Call → Tables → ℕ → ℕ → ℕ → ℕ → Type 0
WrittenIn [] t o d n u = ⊥
WrittenIn (c ∷ cs) t o d n u = WrittenBy c t o d n u ⊎ WrittenIn cs (perform c t).tables o d n u

pub fields-last-all : (cs : List Call) → All (λ c. Frees c → ⊥) cs → (t : Tables) (o d n u : ℕ) (v : Value) → field_of t o d n u ≡ some v
    → (field_of (perform_all cs t).tables o d n u ≡ some v) ⊎ WrittenIn cs t o d n u
unfolding perform_all
fields-last-all [] f t o d n u v h = inl h
fields-last-all (c ∷ cs) f t o d n u v h = elim (fields-last c f.0 t o d n u v h) [
  | inl k ↦ elim (fields-last-all cs f.1 (perform c t).tables o d n u v k) [ inl l ↦ inl l | inr w ↦ inr (inr w) ]
  | inr w ↦ inr (inl w)
]

-- A putfield that ran

module _ (t : Tables) (f : Frame) (fs : List Frame) (m : Now) (c n u k : ℕ) (turns : Turns t f fs m) (ran : (step_tables t).answer ≡ Ran k) (puts : m.at.instruction ≡ Putfield c n u) where
  abbrev left : Tables
  left = (step_tables t).tables

  abbrev wrote : Put (world_of (view t)).base m.the_class.loader f fs m.at c n u (field_of t) (field_of left) (frames_in (turn (view t)) (view left))
  wrote = putfield-writes t f fs m c n u k turns ran puts

  -- A getfield that ran later, by the same class, name and type on the same object, reads what was written: after any calls that free no object and don't write the field
  pub written_read : (cs : List Call) → All (λ c. Frees c → ⊥) cs → (WrittenIn cs left wrote.object wrote.declarer n u → ⊥)
      → (g : Frame) (gs : List Frame) (l : Now) (e j : ℕ) (r : Turns (perform_all cs left).tables g gs l) (a : (step_tables (perform_all cs left).tables).answer ≡ Ran j) (i : l.at.instruction ≡ Getfield e n u)
      → (let read = getfield-reads (perform_all cs left).tables g gs l e n u j r a i in (read.object ≡ wrote.object) → (read.declarer ≡ wrote.declarer) → read.value ≡ wrote.value)
  written_read cs frees unwritten g gs l e j r a i o d =
      let read = getfield-reads (perform_all cs left).tables g gs l e n u j r a i in
      elim (fields-last-all cs frees left wrote.object wrote.declarer n u wrote.value wrote.written) [
        | inl h ↦ some-injective read.value wrote.value (sym read.sees ∙ ((λ z. field_of (perform_all cs left).tables (o z) (d z) n u) ∙ h))
        | inr w ↦ absurd (unwritten w)
      ]

  -- A getfield by another class, name or type, or on another object, reads what it would have read before
  pub others_apart : (g : Frame) (gs : List Frame) (l : Now) (e x y j : ℕ) (r : Turns left g gs l) (a : (step_tables left).answer ≡ Ran j) (i : l.at.instruction ≡ Getfield e x y)
      → (let read = getfield-reads left g gs l e x y j r a i in
      (SameField read.object read.declarer x y wrote.object wrote.declarer n u → ⊥) → field_of t read.object read.declarer x y ≡ some read.value)
  others_apart g gs l e x y j r a i other = let read = getfield-reads left g gs l e x y j r a i in sym (wrote.kept read.object read.declarer x y other) ∙ read.sees
