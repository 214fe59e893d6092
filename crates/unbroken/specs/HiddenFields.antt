-- Hidden fields, paper 6, on tables. A field of an object goes by the class that resolution found, whatever the object's own class is: a getfield reads it (`getfield-reads`), a putfield writes it and no other
-- (`putfield-writes`). An object that exists has a field for each class that declares one, at or above its own (`holds-each`), at most 16 in all (`sixteen-in-all`). No call answers 8 (`never-hidden`,
-- `run-never-hidden`).
use Rattle.std.specs.Prelude.{◌≡◌, Bool, ℕ, ◌≤◌, ◌<◌, length, set, eqb}
use Rattle.std.proofs.Math.Path.{refl, ap}
use Rattle.std.proofs.Common.{sym, ◌∙◌, subst, inl, inr, arith}
use Rattle.std.proofs.Math.Bool.{true, false}
use Rattle.std.proofs.lemmas.Bool.{false≢true}
use Rattle.std.proofs.Math.Option.{Option, none, some, none-ne-some, some-injective}
use mathlib.Core.List.{List, ◌∷◌}
use Rattle.std.proofs.Math.ListN.{get_elem?}
use Rattle.definition.specs.declared.Refusal.{Refusal}
use Rattle.definition.specs.declared.Reply.TheVariants.{RanFor}
use Rattle.definition.specs.declared.Answer.TheVariants.{Ran, Refused}
use Rattle.definition.specs.declared.Instruction.{Instruction}
use Rattle.definition.specs.declared.Instruction.TheVariants.{Getfield, Putfield}
use Rattle.definition.specs.Numbers.{word_hidden, field_limit}
use Rattle.definition.specs.Lists.{any}
use Rattle.definition.specs.Maybe.{◌>>=◌, need}
use Rattle.definition.specs.Requests.{at}
use Rattle.definition.specs.Superclasses.{Below, nearest, below}
use Rattle.definition.specs.Classes.{Base, Class, find, has_field, slots, super_of}
use Rattle.definition.specs.Constraints.{World}
use Rattle.definition.specs.Instructions.{Decoded}
use Rattle.definition.specs.Machine.{Value, object_value, Object, Objects, existing, changed, Frame, Progress, Now, past, execute}
use Rattle.definition.specs.Tables.{Tables, world_of, size_of, frames_in, view}
use Rattle.definition.specs.Broken.{broken}
use Rattle.definition.specs.Calls.{step_refusals, load_define, load_record, load_refusals, row_define, row_record, row_start, row_drop, row_sweep, row_try, row_take_back, row_refusals, Call, call_boot, call_rows, call_step, call_run, refusals_of, perform, step_tables, turn}
use Rattle.definition.specs.Answers.{ok, number, number_of}
use Rattle.laws.specs.Agreement.{super-falls}
use Rattle.laws.specs.FieldPlaces.{place_of, place-slot, places-apart}
use Rattle.laws.specs.Growth.{nth-lt}
use Rattle.laws.specs.Members.{field-place}
use Rattle.laws.specs.Objects.{changed-there, changed-keeps, changed-from}
use Rattle.laws.specs.Options.{some-bind, set_there, set_apart}
use Rattle.laws.specs.Refusals.{due-listed}
use Rattle.laws.specs.Refused.{refusal, refused-listed, run-refusal}
use Rattle.laws.specs.Results.{take-ok}
use Rattle.laws.specs.Runs.{after}
use Rattle.laws.specs.Upward.{nearest-below, below_true, true_below, below-trans}
use Rattle.laws.specs.Wrapped.{Ok, ok_at, then}
use Rattle.layout.specs.ReadBack.{size_small}
use Rattle.layout.specs.Unbroken.{broken-false}
use Rattle.unbroken.specs.First.{zero_number, refusal-number}
use Rattle.unbroken.specs.Steps.{receiver-is, pop-is, object-at}
use Rattle.unbroken.specs.WholeRows.{nth-there}
use Rattle.unbroken.specs.Sweeping.{Turns, progressed-frames, ran-shows}

-- what an access to object o by the field (d, n, t) sees: nothing, unless the object's class is d, which declares the field, or below it
unfoldable pub field_in : Base → Objects → ℕ → ℕ → ℕ → ℕ → Option Value
field_in b os o d n t = existing os o >>= λ x. need (below (super_of b) x.class d) >>= λ _. place_of b d n t >>= λ j. get_elem? x.values j

abbrev pub field_of : Tables → ℕ → ℕ → ℕ → ℕ → Option Value
field_of t = field_in (world_of (view t)).base (view t).objects

-- the class that resolution finds for a class, a field name and a type that an instruction names, under loader l
pub record Resolved (b : Base) (l c n t d : ℕ) : Type 0 where
  pub named : ℕ
  pub cached : find b.cache (at l c) ≡ some named
  pub found : nearest (super_of b) (has_field b n t) named ≡ some d

-- the same field of the same object
abbrev pub SameField : ℕ → ℕ → ℕ → ℕ → ℕ → ℕ → ℕ → ℕ → Type 0
SameField o d n t p e m u = (o ≡ p) × (d ≡ e) × (n ≡ m) × (t ≡ u)

-- What a getfield and a putfield of frame f do, where the fields are seen `before` and `after`, and the task then has the frames gs

pub record Got (b : Base) (l : ℕ) (f : Frame) (fs : List Frame) (i : Decoded) (c n t : ℕ) (before after : ℕ → ℕ → ℕ → ℕ → Option Value) (gs : List Frame) : Type 0 where
  pub declarer : ℕ
  pub resolved : Resolved b l c n t declarer
  pub object : ℕ
  pub others : List Value
  pub operands : f.operands ≡ object_value object ∷ others
  pub value : Value
  pub sees : before object declarer n t ≡ some value
  pub pushed : gs ≡ past f i (value ∷ others) f.locals ∷ fs
  pub kept : (o d m u : ℕ) → after o d m u ≡ before o d m u

pub record Put (b : Base) (l : ℕ) (f : Frame) (fs : List Frame) (i : Decoded) (c n t : ℕ) (before after : ℕ → ℕ → ℕ → ℕ → Option Value) (gs : List Frame) : Type 0 where
  pub declarer : ℕ
  pub resolved : Resolved b l c n t declarer
  pub object : ℕ
  pub value : Value
  pub others : List Value
  pub operands : f.operands ≡ value ∷ object_value object ∷ others
  pub written : after object declarer n t ≡ some value
  pub popped : gs ≡ past f i others f.locals ∷ fs
  pub kept : (o d m u : ℕ) → (SameField o d m u object declarer n t → ⊥) → after o d m u ≡ before o d m u

-- One object, whose place j was written

module _ (b : Base) (x : Object) (d n t j : ℕ) (v : Value) (l : Below (super_of b) x.class d) (p : place_of b d n t ≡ some j) where
  abbrev written : Object
  written = record { class = x.class; values = set x.values j v }

  -- the field is seen there
  is_seen : length x.values ≡ size_of b x.class
      → (need (below (super_of b) x.class d) >>= λ _. place_of b d n t >>= λ i. get_elem? (set x.values j v) i) ≡ some v
  unfolding need
  is_seen s =
      let z = place-slot b x.class d n t j l p in
      some-bind _ _ (rw (true_below (super_of b) (super-falls b) x.class d l) refl)
      (some-bind (place_of b d n t) _ p (set_there x.values j v (omega (arith, nth-lt (slots b x.class) j z.slot z.is_slot))))

  -- any other field is seen as it was
  is-kept : (e m u : ℕ) → ((e ≡ d) × (m ≡ n) × (u ≡ t) → ⊥)
      → (need (below (super_of b) x.class e) >>= λ _. place_of b e m u >>= λ i. get_elem? (set x.values j v) i)
      ≡ (need (below (super_of b) x.class e) >>= λ _. place_of b e m u >>= λ i. get_elem? x.values i)
  unfolding need ◌>>=◌
  is-kept e m u other = go (below (super_of b) x.class e) refl (place_of b e m u) refl
    where
      go : (a : Bool) → below (super_of b) x.class e ≡ a → (q : Option ℕ) → place_of b e m u ≡ q
          → (need a >>= λ _. q >>= λ i. get_elem? (set x.values j v) i) ≡ (need a >>= λ _. q >>= λ i. get_elem? x.values i)
      go false h q y = refl
      go true h none y = refl
      go true h (some i) y = set_apart x.values j v i (λ z. other (places-apart b x.class e m u d n t i j (below_true (super_of b) (super-falls b) x.class e h) l y p z))

-- All objects

module _ (b : Base) (os : Objects) (o : ℕ) (x : Object) (there : existing os o ≡ some x) (d n t j : ℕ) (v : Value) (l : Below (super_of b) x.class d) (p : place_of b d n t ≡ some j) where
  abbrev left : Objects
  left = changed os o (record { class = x.class; values = set x.values j v })

  changed-seen : length x.values ≡ size_of b x.class → field_in b left o d n t ≡ some v
  unfolding field_in
  changed-seen s = some-bind _ _ (changed-there os o x (written b x d n t j v l p) there) (is_seen b x d n t j v l p s)

  changed-kept : (q e m u : ℕ) → (SameField q e m u o d n t → ⊥) → field_in b left q e m u ≡ field_in b os q e m u
  unfolding field_in ◌>>=◌
  changed-kept q e m u other = go (existing os q) refl (existing left q) refl
    where
      look : Option Object → Option Value
      look y = y >>= λ z. need (below (super_of b) z.class e) >>= λ _. place_of b e m u >>= λ i. get_elem? z.values i

      -- the object that was written, by another field
      same : (y z : Object) → x ≡ y → written b x d n t j v l p ≡ z → q ≡ o → look (some z) ≡ look (some y)
      same y z f g h = rw (sym f, sym g) (is-kept b x d n t j v l p e m u (λ k. other (h, k.0, k.1, k.2)))

      go : (y : Option Object) → existing os q ≡ y → (z : Option Object) → existing left q ≡ z → look z ≡ look y
      go none f none g = refl
      go none f (some z) g = absurd (elim (changed-from os o (written b x d n t j v l p) q z g) [
        | inl h ↦ none-ne-some z (sym f ∙ h)
        | inr h ↦ none-ne-some x (sym f ∙ (ap (existing os) h.0 ∙ there))
      ])
      go (some y) f z g = elim (changed-keeps os o (written b x d n t j v l p) q y f) [
        | inl h ↦ ap look (sym g ∙ h)
        | inr h ↦ ap look (sym g ∙ h.1) ∙ same y (written b x d n t j v l p) (some-injective x y (sym there ∙ (sym (ap (existing os) h.0) ∙ f))) refl h.0
      ]

-- One instruction

module _ (task : ℕ) (w : World) (os : Objects) (f : Frame) (fs : List Frame) (k : Class) (i : Decoded) (c n t : ℕ) where
  -- the class that declares the field lies at or above the receiver's
  upward : (x e d : ℕ) → below (super_of w.base) x e ≡ true → nearest (super_of w.base) (has_field w.base n t) e ≡ some d → Below (super_of w.base) x d
  upward x e d h g = below-trans (below_true (super_of w.base) (super-falls w.base) x e h) (nearest-below (super_of w.base) (super-falls w.base) (has_field w.base n t) e d g).0

  abbrev GotRows : Progress → Type 0
  GotRows o = Got w.base k.loader f fs i c n t (field_in w.base os) (field_in w.base o.objects) o.frames

  got-rows : Ok (execute task w os f fs k i (Getfield c n t)) GotRows
  unfolding execute
  got-rows = then GotRows _ _ (λ e ce. then GotRows _ _ (λ d cd. then GotRows _ _ (λ v _. then GotRows _ _ (λ p cp. then GotRows _ _ (λ o co. then GotRows _ _ (λ j cj. then GotRows _ _ (λ x cx.
      let r = receiver-is w.base os e p.top o co in
      let l = upward o.object.class e d r.2 (take-ok _ _ cd) in
      record {
        declarer = d;
        resolved = record { named = e; cached = take-ok _ _ ce; found = take-ok _ _ cd };
        object = o.number;
        others = p.more;
        operands = pop-is f.operands p cp ∙ ap (λ (y : Value). y ∷ p.more) r.0;
        value = x;
        sees = unfold field_in need in some-bind _ _ r.1 (some-bind _ _ (rw (true_below (super_of w.base) (super-falls w.base) o.object.class d l) refl) (some-bind _ _ (take-ok _ _ cj) (take-ok _ _ cx)));
        pushed = refl;
        kept = λ _ _ _ _. refl;
      })))))))

  abbrev pub PutRows : Progress → Type 0
  PutRows o = Put w.base k.loader f fs i c n t (field_in w.base os) (field_in w.base o.objects) o.frames

  -- where each object has as many values as its class has fields
  pub put-rows : ((o : ℕ) (x : Object) → existing os o ≡ some x → length x.values ≡ size_of w.base x.class) → Ok (execute task w os f fs k i (Putfield c n t)) PutRows
  unfolding execute
  put-rows sized = then PutRows _ _ (λ e ce. then PutRows _ _ (λ d cd. then PutRows _ _ (λ v _. then PutRows _ _ (λ p cp. then PutRows _ _ (λ q cq. then PutRows _ _ (λ _ _. then PutRows _ _ (λ o co. then PutRows _ _ (λ j cj.
      let r = receiver-is w.base os e q.top o co in
      let l = upward o.object.class e d r.2 (take-ok _ _ cd) in
      record {
        declarer = d;
        resolved = record { named = e; cached = take-ok _ _ ce; found = take-ok _ _ cd };
        object = o.number;
        value = p.top;
        others = q.more;
        operands = pop-is f.operands p cp ∙ ap (λ (y : List Value). p.top ∷ y) (pop-is p.more q cq ∙ ap (λ (y : Value). y ∷ q.more) r.0);
        written = changed-seen w.base os o.number o.object r.1 d n t j p.top l (take-ok _ _ cj) (sized o.number o.object r.1);
        popped = refl;
        kept = changed-kept w.base os o.number o.object r.1 d n t j p.top l (take-ok _ _ cj);
      }))))))))

-- On tables

module _ (t : Tables) (f : Frame) (fs : List Frame) (n : Now) (c x y k : ℕ) (turns : Turns t f fs n) (ran : (step_tables t).answer ≡ Ran k) where
  abbrev after-step : Tables
  after-step = (step_tables t).tables

  pub getfield-reads : n.at.instruction ≡ Getfield c x y
      → Got (world_of (view t)).base n.the_class.loader f fs n.at c x y (field_of t) (field_of after-step) (frames_in (turn (view t)) (view after-step))
  getfield-reads e = ran-shows t f fs n k
      (λ s. Got (world_of (view t)).base n.the_class.loader f fs n.at c x y (field_of t) (field_in (world_of s).base s.objects) (frames_in (turn (view t)) s)) turns ran
      (λ _ o q. subst (λ (gs : List Frame). Got (world_of (view t)).base n.the_class.loader f fs n.at c x y (field_of t) (field_in (world_of (view t)).base o.objects) gs)
      (sym (progressed-frames (turn (view t)) (view t) o))
      (ok_at (GotRows (turn (view t)) (world_of (view t)) (view t).objects f fs n.the_class n.at c x y) _
      (got-rows (turn (view t)) (world_of (view t)) (view t).objects f fs n.the_class n.at c x y) o
      (subst (λ (i : Instruction). execute (turn (view t)) (world_of (view t)) (view t).objects f fs n.the_class n.at i ≡ ok o) e q)))

  pub putfield-writes : n.at.instruction ≡ Putfield c x y
      → Put (world_of (view t)).base n.the_class.loader f fs n.at c x y (field_of t) (field_of after-step) (frames_in (turn (view t)) (view after-step))
  putfield-writes e = ran-shows t f fs n k
      (λ s. Put (world_of (view t)).base n.the_class.loader f fs n.at c x y (field_of t) (field_in (world_of s).base s.objects) (frames_in (turn (view t)) s)) turns ran
      (λ w o q. subst (λ (gs : List Frame). Put (world_of (view t)).base n.the_class.loader f fs n.at c x y (field_of t) (field_in (world_of (view t)).base o.objects) gs)
      (sym (progressed-frames (turn (view t)) (view t) o))
      (ok_at (PutRows (turn (view t)) (world_of (view t)) (view t).objects f fs n.the_class n.at c x y) _
      (put-rows (turn (view t)) (world_of (view t)) (view t).objects f fs n.the_class n.at c x y (λ p z h. (object-at _ _ _ (view t).objects w.objects p z h).size)) o
      (subst (λ (i : Instruction). execute (turn (view t)) (world_of (view t)) (view t).objects f fs n.the_class n.at i ≡ ok o) e q)))

-- An object that exists has a field for each class that declares one, at or above its own
pub holds-each : (t : Tables) → broken t ≡ false → (o : ℕ) (x : Object) → existing (view t).objects o ≡ some x → (d n u : ℕ) → Below (super_of (world_of (view t)).base) x.class d
    → has_field (world_of (view t)).base n u d ≡ true → (v : Value) × (field_of t o d n u ≡ some v)
holds-each t h o x e d n u l has =
    let B = (world_of (view t)).base in
    let w = (broken-false t h).1 in
    let p = field-place B x.class d n u has l in
    let z = nth-there x.values p.place (omega (arith, nth-lt (slots B x.class) p.place p.slot p.is_slot, (object-at _ _ _ (view t).objects w.objects o x e).size)) in
    (z.0, unfold field_in need in some-bind _ _ e (some-bind _ _ (rw (true_below (super_of B) (super-falls B) x.class d l) refl) (some-bind _ _ p.index z.1)))

-- at most 16 in all, hidden ones too
pub sixteen-in-all : (t : Tables) → broken t ≡ false → (c : ℕ) → c < length (view t).classes → length (slots (world_of (view t)).base c) ≤ field_limit
sixteen-in-all t h c l = let w = (broken-false t h).1 in size_small (view t).cache (view t).kept (view t).classes w.classes c l

-- No call answers 8

unlisted : (c : Call) → any (eqb word_hidden) (refusals_of c) ≡ false
unfolding refusals_of row_refusals load_refusals step_refusals any
unlisted call_boot = refl
unlisted (call_rows (row_define l bs)) = refl
unlisted (call_rows (row_record l n c)) = refl
unlisted (call_rows (row_start k l n m v)) = refl
unlisted (call_rows (row_drop k)) = refl
unlisted (call_rows row_sweep) = refl
unlisted (call_rows (row_try (load_define l bs) n)) = refl
unlisted (call_rows (row_try (load_record l m c) n)) = refl
unlisted (call_rows row_take_back) = refl
unlisted call_step = refl
unlisted (call_run n) = refl

pub never-hidden : (c : Call) (t : Tables) → number_of (perform c t).answer ≡ word_hidden → ⊥
never-hidden c t h = go (refusal (perform c t).answer) refl
  where
    go : (o : Option Refusal) → refusal (perform c t).answer ≡ o → ⊥
    go none e = let z : ◌≡◌ {A = ℕ} 0 8 = sym (zero_number (perform c t).answer e) ∙ h in omega arith
    go (some w) e =
        let z : number w ≡ word_hidden = sym (refusal-number (perform c t).answer w e) ∙ h in
        false≢true (sym (unlisted c) ∙ subst (λ (m : ℕ). any (eqb m) (refusals_of c) ≡ true) z (refused-listed c t w e))

-- nor does a run end in 8
pub run-never-hidden : (n : ℕ) (t : Tables) (k : ℕ) (w : Refusal) → (perform (call_run n) t).answer ≡ RanFor k (Refused w) → number w ≡ word_hidden → ⊥
run-never-hidden n t k w e h =
    let d = due-listed call_step (view (after step_tables k t)) w (run-refusal n t k w e).due in
    false≢true (sym (unlisted call_step) ∙ subst (λ (m : ℕ). any (eqb m) (refusals_of call_step) ≡ true) h d)
