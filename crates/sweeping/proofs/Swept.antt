-- The call: a broken store is refused; of another, what is marked is what frames reach, so that what is freed is what the definition frees.
use mathlib.Core.Path.{◌≡◌, refl, sym, ap, subst, ◌∙◌}
use mathlib.Core.Bool.{Bool, true, false, not}
use mathlib.Core.Option.{some, none-ne-some, some-injective}
use mathlib.Core.List.{List, [], ◌∷◌, ◌++◌, append_assoc}
use Prim.Native.Nat.{ℕ, zero, suc, ◌+◌, ◌*◌, ◌<◌, ◌≤◌}
use native.Mathlib.Omega.{arith}
use lib.ListN.{length, replicate, get_or, set}
use lib.Dec.{eqb, ltb}
use borrow.Author.Tests.{ltb-true, ltb-false}
use Rattle.definition.specs.declared.Refusal.TheVariants.{Word}
use Rattle.definition.specs.declared.Reply.TheVariants.{Swept, Denied}
use Rattle.definition.specs.Chains.{has}
use Rattle.definition.specs.Classes.{Base}
use Rattle.definition.specs.Numbers.{loads_cell}
use Rattle.definition.specs.Lists.{write_rows}
use Rattle.definition.specs.Machine.{Value, empty_value, int_value, null_value, object_value, unlisted_value, Object, Objects, existing, Exists, Frame}
use Rattle.definition.specs.Sweeping.{named, roots, reached, swept_from, freed_from}
use Rattle.definition.specs.Tables.{Tables, tables, object_at, owner_at, put_owner, class_row_at, class_rows_of, view_base, objects_of, frames_of, view_over, view}
use Rattle.definition.specs.Broken.{broken}
use Rattle.definition.specs.Calls.{done, sweep_rows, carried, call_sweep, perform}
use Rattle.laws.specs.Wrapped.{wrap-broken, wrap-carried}
use Rattle.layout.specs.Tests.{All, all_both}
use Rattle.layout.specs.Places.{rows-length}
use Rattle.layout.specs.Whole.{Local, ValueSound, ObjectSound, Framed, Whole}
use Rattle.layout.specs.View.{sweep-writes, object-there, object-past, object-free}
use Rattle.layout.specs.Unbroken.{unbroken, broken-false}
use Rattle.unbroken.specs.Steps.{object-at}
use Rattle.store.specs.Checks.{Sized}
use Rattle.store.proofs.Laws.{same-object}
use Rattle.sweeping.specs.Marking.{Work, work, mark_all, field_names, follow, roots_of, marked, Freed, freed, free_rows}
use Rattle.sweeping.proofs.Laws.{mark-both}
use Rattle.sweeping.proofs.Reaching.{marked-reached}
use Rattle.sweeping.proofs.Freed.{rows-freed}

-- What values and frames name exists, where they are sound

module _ (X : ℕ → Type 0) where
  values-name : (vs : List Value) → All (ValueSound X) vs → All X (named vs)
  unfolding named
  values-name [] h = tt
  values-name (empty_value ∷ vs) h = absurd h.0
  values-name (int_value n ∷ vs) h = values-name vs h.1
  values-name (null_value ∷ vs) h = values-name vs h.1
  values-name (object_value o ∷ vs) h = (h.0, values-name vs h.1)
  values-name (unlisted_value k b ∷ vs) h = absurd h.0

  locals-name : (vs : List Value) → All (Local X) vs → All X (named vs)
  unfolding named
  locals-name [] h = tt
  locals-name (empty_value ∷ vs) h = locals-name vs h.1
  locals-name (int_value n ∷ vs) h = locals-name vs h.1
  locals-name (null_value ∷ vs) h = locals-name vs h.1
  locals-name (object_value o ∷ vs) h = (h.0, locals-name vs h.1)
  locals-name (unlisted_value k b ∷ vs) h = absurd h.0

  frames-name : (n : ℕ) (fs : List Frame) → All (Framed n X) fs → All X (roots fs)
  unfolding roots
  frames-name n [] h = tt
  frames-name n (f ∷ fs) h =
      all_both X (named f.operands) _ (values-name f.operands h.0.operands) (all_both X (named f.locals) _ (locals-name f.locals h.0.locals) (frames-name n fs h.1))

roots-both : (qs rs : List Frame) → roots (qs ++ rs) ≡ roots qs ++ roots rs
unfolding roots
roots-both [] rs = refl
roots-both (f ∷ qs) rs =
    ap (λ (os : List ℕ). named f.operands ++ (named f.locals ++ os)) (roots-both qs rs)
    ∙ sym (append_assoc (named f.operands) (named f.locals ++ roots qs) (roots rs) ∙ ap (λ (os : List ℕ). named f.operands ++ os) (append_assoc (named f.locals) (roots qs) (roots rs)))

-- The tables

pub sweep-broken : (t : Tables) → broken t ≡ true → done (Denied (Word 1)) t ≡ perform call_sweep t
unfolding perform
sweep-broken t h = sym (wrap-broken Denied sweep_rows t h)

module _ (t : Tables) (sound : broken t ≡ false) (sizes : List ℕ) (sized : Sized (view_base t) (get_or t.counts 0 0) sizes) where
  abbrev b : Base
  b = view_base t

  abbrev os : Objects
  os = objects_of b t

  abbrev fs : List Frame
  fs = frames_of t 0 ++ frames_of t 1

  abbrev R : List ℕ
  R = reached os fs

  whole : Whole (view_over b t)
  whole = unfold view in (broken-false t sound).1

  -- an object that exists is the one in its row
  object-is : (o : ℕ) (x : Object) → existing os o ≡ some x → x ≡ object_at b t.objects o
  object-is o x e = go (ltb o (get_or t.counts 5 0)) refl (owner_at t.counts o) refl
    where
      go : (u : Bool) → ltb o (get_or t.counts 5 0) ≡ u → (w : ℕ) → owner_at t.counts o ≡ w → x ≡ object_at b t.objects o
      go true h zero q = absurd (none-ne-some x (sym (object-free t b o q) ∙ e))
      go true h (suc w) q = sym (some-injective (object_at b t.objects o) x (sym (object-there t b o (ltb-true o (get_or t.counts 5 0) h) (omega (arith, q))) ∙ e))
      go false h w q = absurd (none-ne-some x (sym (object-past t b o (ltb-false o (get_or t.counts 5 0) h)) ∙ e))

  object-sound : (o : ℕ) (x : Object) → existing os o ≡ some x → ObjectSound b (get_or t.counts 0 0) (Exists os) x
  unfolding view_over
  object-sound o x e =
      subst (λ (n : ℕ). ObjectSound b n (Exists os) x) (rows-length (class_row_at t.classes) (get_or t.counts 0 0) 0)
      (object-at b (length (class_rows_of t)) (Exists os) os whole.objects o x e)

  -- its fields are read as the definition reads them
  names-read : (o : ℕ) (x : Object) → existing os o ≡ some x → field_names sizes t.objects o ≡ named x.values
  unfolding field_names object_at
  names-read o x e =
      let q = object-is o x e in
      let l : get_or t.objects (o * 33) 0 < get_or t.counts 0 0 = subst (λ (y : Object). y.class < get_or t.counts 0 0) q (object-sound o x e).class in
      ap (λ (y : Object). named y.values) (same-object b (get_or t.counts 0 0) sizes t.objects sized o l ∙ sym q)

  frames-exist : All (Exists os) (roots fs)
  unfolding view_over
  frames-exist =
      frames-name (Exists os) (length (class_rows_of t)) fs (all_both (Framed (length (class_rows_of t)) (Exists os)) (frames_of t 0) (frames_of t 1) whole.quote whole.report)

  few : length os ≤ 256
  unfolding view_over
  few = whole.limits.objects

  abbrev start : Work
  start = work (replicate 256 0) (replicate 256 0) 0

  both-tasks : mark_all (mark_all start (roots_of t.counts t.frames 0)) (roots_of t.counts t.frames 1) ≡ mark_all start (roots fs)
  unfolding frames_of
  both-tasks = sym (mark-both start (roots (frames_of t 0)) (roots (frames_of t 1))) ∙ ap (mark_all start) (sym (roots-both (frames_of t 0) (frames_of t 1)))

  marks-same : (o : ℕ) → eqb (get_or (marked sizes t.counts t.objects t.frames (replicate 256 0)).marks o 0) 0 ≡ not (has eqb o R)
  unfolding marked
  marks-same o =
      ap (λ (w : Work). eqb (get_or (follow (field_names sizes t.objects) 256 0 w).marks o 0) 0) both-tasks
      ∙ marked-reached os fs few (field_names sizes t.objects) names-read frames-exist (λ p x e. values-name (Exists os) x.values (object-sound p x e).values) o

  -- what the definition leaves
  swept : perform call_sweep t
      ≡ done (Swept (freed_from R 0 os)) (tables (set (write_rows put_owner (swept_from R 0 os) 0 t.counts) loads_cell 0) t.classes t.kept t.cache t.ties t.subtypes t.objects t.frames)
  unfolding perform sweep_rows carried view view_over
  swept = wrap-carried Denied sweep_rows t sound ∙ ap (done (Swept (freed_from R 0 os))) (sweep-writes b t R (unbroken t sound).counts.objects (unbroken t sound).groups)

  pub sweep-done : (marks c : List ℕ) (n : ℕ) → marks ≡ (marked sizes t.counts t.objects t.frames (replicate 256 0)).marks
      → freed c n ≡ free_rows marks (get_or t.counts 5 0) 0 t.counts 0
      → done (Swept n) (tables (set c loads_cell 0) t.classes t.kept t.cache t.ties t.subtypes t.objects t.frames) ≡ perform call_sweep t
  unfolding objects_of
  sweep-done marks c n e f =
      let same : (o : ℕ) → eqb (get_or marks o 0) 0 ≡ not (has eqb o R) = λ o. ap (λ (m : List ℕ). eqb (get_or m o 0) 0) e ∙ marks-same o in
      let z : 0 + freed_from R 0 os ≡ freed_from R 0 os = omega arith in
      let g : freed c n ≡ freed (write_rows put_owner (swept_from R 0 os) 0 t.counts) (freed_from R 0 os) =
      f ∙ (rows-freed R marks same b t.counts t.objects (get_or t.counts 5 0) 0 0 t.counts (λ j l. refl) ∙ ap (freed (write_rows put_owner (swept_from R 0 os) 0 t.counts)) z) in
      ap (λ (r : Freed). done (Swept r.number) (tables (set r.counts loads_cell 0) t.classes t.kept t.cache t.ties t.subtypes t.objects t.frames)) g ∙ sym swept
