-- Loading later never changes an earlier resolution: no call but a boot changes what a cached request means, what lies above a class, which field or
-- method a lookup from it finds, or which fields its objects have.
use Rattle.std.specs.Prelude.{◌≡◌, refl, ◌⊎◌, ℕ}
use Rattle.std.proofs.Math.Path.{sym, subst}
use Rattle.std.proofs.Common.{◌∙◌, inl, inr, ltb-true}
use Rattle.std.proofs.Math.Option.{some}
use mathlib.Core.List.{List, [], ◌∷◌}
use Rattle.std.proofs.Math.ListN.{get_elem?}
use Rattle.definition.specs.declared.Signature.{Signature}
use Rattle.definition.specs.declared.Refusal.{Refusal}
use Rattle.definition.specs.declared.Answer.TheVariants.{Refused}
use Rattle.definition.specs.declared.Reply.{Reply}
use Rattle.definition.specs.declared.Reply.TheVariants.{Denied}
use Rattle.definition.specs.Requests.{Request}
use Rattle.definition.specs.Superclasses.{nearest, below}
use Rattle.definition.specs.Answers.{Result}
use Rattle.definition.specs.Classes.{Base, Class, find, super_of, loader_of, slots, has_field, selected}
use Rattle.definition.specs.Constraints.{World}
use Rattle.definition.specs.Machine.{Frame, Progress}
use Rattle.definition.specs.Tables.{Tables, Level, Rows, cut_to, world_of, view}
use Rattle.definition.specs.Calls.{Given, taken_back, call_take_back, progressed, define_rows, record_rows, start_rows, drop_rows, sweep_rows, step_task, step_on, step_rows, wrap, step_tables, Call, call_boot, call_step, call_run, perform, perform_all, RowCall, row_define, row_record, row_start, row_drop, row_sweep, row_try, row_take_back, on_row_call, call_rows}
use Rattle.laws.specs.Growth.{Grows, grows-class, grows-entry}
use Rattle.laws.specs.Results.{need-ok, take-ok}
use Rattle.laws.specs.Runs.{run-keeps}
use Rattle.laws.specs.Stable.{Rooted, super-stable, below-stable, field-stable, selected-stable, loader-stable, slots-stable}
use Rattle.laws.specs.Wrapped.{Ok, ok_at, then}
use Rattle.laws.specs.Tried.{try-leaves}
use Rattle.layout.specs.Tests.{All}
use Rattle.layout.specs.Whole.{Sound, Whole}
use Rattle.layout.specs.Traced.{EachTurn, Leaves}
use Rattle.unbroken.specs.Accepted.{Entered, Stood, recorded-is, defined-is}
use Rattle.unbroken.specs.Calls.{world-recorded, world-defined, step-whole, rows_whole}
use Rattle.unbroken.specs.WholeRows.{ready, sound-rooted}
use Rattle.unbroken.specs.Cut.{cut-grows}
use Rattle.unbroken.specs.Unbroken.{Keeps, shown, shown-traced}
use Rattle.unbroken.specs.Lasting.{UnloadsRows, Unloads}

abbrev pub There : Base → ℕ → Type 0
There b c = (k : Class) × (get_elem? b.classes c ≡ some k)

-- of each class that is there
pub record Resolves (b d : Base) : Type 0 where
  pub classes : (c : ℕ) (k : Class) → get_elem? b.classes c ≡ some k → get_elem? d.classes c ≡ some k
  pub cached : (q : Request) (c : ℕ) → find b.cache q ≡ some c → find d.cache q ≡ some c
  pub super : (c : ℕ) → There b c → super_of d c ≡ super_of b c
  pub is_below : (c e : ℕ) → There b c → below (super_of d) c e ≡ below (super_of b) c e
  pub nearest_field : (n t c : ℕ) → There b c → nearest (super_of d) (has_field d n t) c ≡ nearest (super_of b) (has_field b n t) c
  pub selected_method : (s : Signature) (c : ℕ) → There b c → selected d s c ≡ selected b s c
  pub loader : (c : ℕ) → There b c → loader_of d c ≡ loader_of b c
  pub fields : (c : ℕ) → There b c → slots d c ≡ slots b c

resolves-same : (b : Base) → Resolves b b
resolves-same b = record {
  classes = λ c k h. h;
  cached = λ q c h. h;
  super = λ c h. refl;
  is_below = λ c e h. refl;
  nearest_field = λ n t c h. refl;
  selected_method = λ s c h. refl;
  loader = λ c h. refl;
  fields = λ c h. refl;
}

resolves-join : {a b d : Base} → Resolves a b → Resolves b d → Resolves a d
resolves-join {a} {b} {d} x y = record {
  classes = λ c k h. y.classes c k (x.classes c k h);
  cached = λ q c h. y.cached q c (x.cached q c h);
  super = λ c h. y.super c (on c h) ∙ x.super c h;
  is_below = λ c e h. y.is_below c e (on c h) ∙ x.is_below c e h;
  nearest_field = λ n t c h. y.nearest_field n t c (on c h) ∙ x.nearest_field n t c h;
  selected_method = λ s c h. y.selected_method s c (on c h) ∙ x.selected_method s c h;
  loader = λ c h. y.loader c (on c h) ∙ x.loader c h;
  fields = λ c h. y.fields c (on c h) ∙ x.fields c h;
}
  where
    on : (c : ℕ) → There a c → There b c
    on c h = (h.0, x.classes c h.0 h.1)

grows-resolves : (w v : World) → Rooted w.base → Grows w v → Resolves w.base v.base
grows-resolves w v k g = record {
  classes = g.classes;
  cached = g.cache;
  super = super-stable w v k g;
  is_below = below-stable w v k g;
  nearest_field = field-stable w v k g;
  selected_method = selected-stable w v k g;
  loader = loader-stable w v k g;
  fields = slots-stable w v k g;
}

-- rows that are cut to a level, and sound, resolve as before what they still have
pub cut-resolves : (l : Level) (r : Rows) → Sound (cut_to l r) → Resolves (world_of (cut_to l r)).base (world_of r).base
cut-resolves l r s = grows-resolves (world_of (cut_to l r)) (world_of r) (sound-rooted (cut_to l r) s) (cut-grows l r s)

module _ (r : Rows) (w : Whole r) where
  abbrev W : World
  W = world_of r

  grown : (v : World) → Grows W v → Resolves W.base v.base
  grown v g = grows-resolves W v (ready r w).rooted g

  abbrev Q : {A : Type 0} → Given A → Type 0
  Q g = Resolves W.base (world_of g.rows).base

  define-resolves : (l : ℕ) (bs : List ℕ) → Ok (define_rows l bs r) Q
  unfolding define_rows
  define-resolves l bs = then Q _ _ (λ _ a. then Q _ _ (λ f rf. then Q _ _ (λ v e.
      let d = defined-is _ _ W v e in
      grown _ (subst (Grows W) (d.is ∙ sym (world-defined r w l bs f v (ltb-true l 16 (need-ok _ _ a)) (take-ok _ _ rf) e)) (grows-class W _ _ _)))))

  record-resolves : (l n c : ℕ) → Ok (record_rows l n c r) Q
  unfolding record_rows
  record-resolves l n c = then Q _ _ (λ v e. subst (λ (z : World). Resolves W.base z.base) (sym (world-recorded r w l n c v e)) (entered v (recorded-is l n c W v e)))
    where
      entered : (v : World) → Stood l n c W v ⊎ Entered l n c W v → Resolves W.base v.base
      entered v (inl z) = subst (λ (z : World). Resolves W.base z.base) z.is (resolves-same W.base)
      entered v (inr x) = subst (λ (z : World). Resolves W.base z.base) x.is (grown _ (grows-entry W _ c))

  -- a start, a step, a drop and a sweep change no class and no cache entry

  progress-resolves : (k : ℕ) (o : Progress) → Resolves W.base (world_of (progressed k r o)).base
  progress-resolves k o = resolves-same W.base

  start-resolves : (k l n m v : ℕ) → Ok (start_rows k l n m v r) Q
  unfolding start_rows
  start-resolves k l n m v = then Q _ _ (λ _ _. then Q _ _ (λ o _. progress-resolves k o))

  drop-resolves : (k : ℕ) → Ok (drop_rows k r) Q
  unfolding drop_rows
  drop-resolves k = then Q _ _ (λ _ _. resolves-same W.base)

  rows-resolve : (c : RowCall) → (UnloadsRows c → ⊥) → Ok (on_row_call c r) Q
  rows-resolve (row_define l bs) i = define-resolves l bs
  rows-resolve (row_record l n c) i = record-resolves l n c
  rows-resolve (row_start k l n m v) i = start-resolves k l n m v
  rows-resolve (row_drop k) i = drop-resolves k
  rows-resolve row_sweep i = unfold sweep_rows in resolves-same W.base
  rows-resolve (row_try c n) i = try-leaves (λ s. Resolves W.base (world_of s).base) c n r (resolves-same W.base)
  rows-resolve row_take_back i = absurd (i tt)

  step-resolves : Ok (step_rows r) Q
  unfolding step_rows
  step-resolves = go r.quote r.report
    where
      go : (q p : List Frame) → Ok (step_on q p (world_of r) r) Q
      go (f ∷ fs) p = unfold step_on step_task in then Q _ _ (λ o _. progress-resolves 0 o)
      go [] (f ∷ fs) = unfold step_on step_task in then Q _ _ (λ o _. progress-resolves 1 o)
      go [] [] = unfold step_on in resolves-same W.base

-- On tables

abbrev Later : Tables → Tables → Type 0
Later t s = Resolves (world_of (view t)).base (world_of (view s)).base

wrap-resolves : {A : Type 0} (deny : Refusal → A) (f : Rows → Result (Given A)) (t : Tables) → Keeps f
    → ((r : Rows) → Whole r → Ok (f r) (λ g. Resolves (world_of r).base (world_of g.rows).base)) → Later t (wrap deny f t).tables
wrap-resolves {A} deny f t k j = shown deny f (λ _ s. Resolves (world_of (view t)).base (world_of s).base) t k (λ w. resolves-same (world_of (view t)).base)
    (λ w g e. ok_at (λ (g : Given A). Resolves (world_of (view t)).base (world_of g.rows).base) _ (j (view t) w) g e)

one-resolves : (t : Tables) → Later t (step_tables t).tables
unfolding step_tables
one-resolves t = wrap-resolves Refused step_rows t step-whole step-resolves

pub resolution-lasts : (c : Call) → (Unloads c → ⊥) → (t : Tables) → Resolves (world_of (view t)).base (world_of (view (perform c t).tables)).base
unfolding perform
resolution-lasts call_boot i t = absurd (i tt)
resolution-lasts (call_rows c) i t = wrap-resolves Denied (on_row_call c) t (λ r w. rows_whole r w c) (λ r w. rows-resolve r w c i)
resolution-lasts call_step i t = one-resolves t
resolution-lasts (call_run n) i t =
    run-keeps (Later t) (λ s p. resolves-join p (one-resolves s)) n t (resolves-same (world_of (view t)).base)

-- after a taking back what is still there resolves as before it
pub taken-resolves : (t : Tables) → Resolves (world_of (view (perform call_take_back t).tables)).base (world_of (view t)).base
unfolding perform
taken-resolves t = shown-traced Denied (on_row_call row_take_back) (λ _ s. Resolves (world_of s).base (world_of (view t)).base) t (λ r w. rows_whole r w row_take_back)
    (λ w. resolves-same (world_of (view t)).base)
    (λ w b g e. ok_at (λ (g : Given Reply). Resolves (world_of g.rows).base (world_of (view t)).base) _ (back (view t).trace b) g e)
  where
    back : (ls : List Level) → EachTurn Leaves ls (view t) → Ok (taken_back ls (view t)) (λ g. Resolves (world_of g.rows).base (world_of (view t)).base)
    back [] b = unfold taken_back in tt
    back (l ∷ ls) b = unfold taken_back in cut-resolves l (view t) b.0.1

-- whatever calls follow
pub resolution-lasts-all : (cs : List Call) → All (λ c. Unloads c → ⊥) cs → (t : Tables) → Resolves (world_of (view t)).base (world_of (view (perform_all cs t).tables)).base
unfolding perform_all
resolution-lasts-all [] i t = resolves-same (world_of (view t)).base
resolution-lasts-all (c ∷ cs) i t = resolves-join (resolution-lasts c i.0 t) (resolution-lasts-all cs i.1 (perform c t).tables)
