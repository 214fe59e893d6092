-- A sweep leaves whole rows whole: what a frame names, and what a field of an object that stays names, is reached and so stays.
use Rattle.std.specs.Prelude.{◌≡◌, Bool, length}
use Rattle.std.proofs.Math.Path.{refl}
use Rattle.std.proofs.Common.{◌∙◌}
use Rattle.std.proofs.Math.Bool.{true, false}
use Rattle.std.proofs.Math.Option.{some}
use mathlib.Core.List.{List, [], ◌∷◌, ◌++◌, Memᴰ}
use Prim.Native.Nat.{ℕ, suc, ◌+◌}
use native.Mathlib.Omega.{arith}
use Rattle.std.proofs.Math.Dec.{eqb}
use Rattle.definition.specs.Chains.{stay, hop, has}
use Rattle.definition.specs.Classes.{Base}
use Rattle.definition.specs.Instructions.{pick}
use Rattle.definition.specs.Machine.{Value, empty_value, int_value, null_value, object_value, unlisted_value, Object, ObjectRow, free, owned, Objects, object_held, existing, Exists, Frame}
use Rattle.definition.specs.Sweeping.{named, roots, Reached, reached, swept_from}
use Rattle.definition.specs.Tables.{Rows, world_of, with_objects}
use Rattle.laws.specs.Objects.{existing-tail}
use Rattle.laws.specs.Sweeps.{member-left, member_right, roots-left, roots-right, found-reached, names-link, swept, sweep-keeps, swept-made}
use Rattle.layout.specs.OwnedRows.{swept-length}
use Rattle.layout.specs.Tests.{All}
use Rattle.layout.specs.Whole.{Local, ValueSound, RowSound, Framed, Whole}

-- Values, where each object that they name still exists

module _ (X Y : ℕ → Type 0) where
  values-kept : (vs : List Value) → All (ValueSound X) vs → ((o : ℕ) → Memᴰ o (named vs) → X o → Y o) → All (ValueSound Y) vs
  unfolding named
  values-kept [] h k = tt
  values-kept (empty_value ∷ vs) h k = absurd h.0
  values-kept (int_value n ∷ vs) h k = (tt, values-kept vs h.1 k)
  values-kept (null_value ∷ vs) h k = (tt, values-kept vs h.1 k)
  values-kept (object_value o ∷ vs) h k = (k o (Memᴰ.head refl) h.0, values-kept vs h.1 (λ p m. k p (Memᴰ.tail m)))
  values-kept (unlisted_value a b ∷ vs) h k = absurd h.0

  locals-kept : (vs : List Value) → All (Local X) vs → ((o : ℕ) → Memᴰ o (named vs) → X o → Y o) → All (Local Y) vs
  unfolding named
  locals-kept [] h k = tt
  locals-kept (empty_value ∷ vs) h k = (tt, locals-kept vs h.1 k)
  locals-kept (int_value n ∷ vs) h k = (tt, locals-kept vs h.1 k)
  locals-kept (null_value ∷ vs) h k = (tt, locals-kept vs h.1 k)
  locals-kept (object_value o ∷ vs) h k = (k o (Memᴰ.head refl) h.0, locals-kept vs h.1 (λ p m. k p (Memᴰ.tail m)))
  locals-kept (unlisted_value a b ∷ vs) h k = absurd h.0

  frames-kept : (n : ℕ) (fs : List Frame) → All (Framed n X) fs → ((o : ℕ) → Memᴰ o (roots fs) → X o → Y o) → All (Framed n Y) fs
  unfolding roots
  frames-kept n [] h k = tt
  frames-kept n (f ∷ fs) h k = (
    record {
      class = h.0.class;
      depth = h.0.depth;
      operands = values-kept f.operands h.0.operands (λ o m. k o (member-left (named f.operands) _ m));
      eight = h.0.eight;
      locals = locals-kept f.locals h.0.locals (λ o m. k o (member_right (named f.operands) _ (member-left (named f.locals) (roots fs) m)));
    },
    frames-kept n fs h.1 (λ o m. k o (member_right (named f.operands) _ (member_right (named f.locals) (roots fs) m))),
  )

  -- rows of objects, the first of object i, of which those in R stay
  rows-kept : (b : Base) (n : ℕ) (R : List ℕ) (i : ℕ) (os : Objects) → All (RowSound b n X) os
      → ((o : ℕ) (x : Object) → existing os o ≡ some x → has eqb (i + o) R ≡ true → (p : ℕ) → Memᴰ p (named x.values) → X p → Y p)
      → All (RowSound b n Y) (swept_from R i os)
  unfolding swept_from
  rows-kept b n R i [] h k = tt
  rows-kept b n R i (x ∷ os) h k =
      let z : i + 0 ≡ i = omega arith in (
        row x (has eqb i R) refl h.0 (λ y e q. k 0 y e (rw z q)),
        rows-kept b n R (suc i) os h.1 (λ o y e q. (let u : i + suc o ≡ suc i + o = omega arith in k (suc o) y (existing-tail x os o ∙ e) (rw u q))),
      )
    where
      row : (x : ObjectRow) (u : Bool) → has eqb i R ≡ u → RowSound b n X x
          → ((y : Object) → existing (x ∷ os) 0 ≡ some y → has eqb i R ≡ true → (p : ℕ) → Memᴰ p (named y.values) → X p → Y p) → RowSound b n Y (pick u x free)
      row free true e s f = unfold pick in tt
      row free false e s f = unfold pick in tt
      row (owned j y) true e s f =
          unfold pick in (s.0, record { class = s.1.class; size = s.1.size; values = values-kept y.values s.1.values (f y (unfold existing object_held in refl) e) })
      row (owned j y) false e s f = unfold pick in tt

-- The rows

module _ (r : Rows) (w : Whole r) where
  abbrev all : List Frame
  all = r.quote ++ r.report

  abbrev left : Objects
  left = swept r.objects all

  -- what exists and is reached stays
  stays : (o : ℕ) → Reached r.objects all o → Exists r.objects o → Exists left o
  stays o h e = (e.0, sweep-keeps r.objects all o e.0 e.1 h)

  root-stays : (o : ℕ) → Memᴰ o (roots all) → Exists r.objects o → Exists left o
  root-stays o m e = stays o (record { root = o; is_root = m; chain = stay refl }) e

  field-stays : (o : ℕ) (x : Object) → existing r.objects o ≡ some x → has eqb (0 + o) (reached r.objects all) ≡ true → (p : ℕ) → Memᴰ p (named x.values)
      → Exists r.objects p → Exists left p
  field-stays o x e h p m g =
      let z : 0 + o ≡ o = omega arith in
      let t = found-reached r.objects all o (rw z at h) in
      stays p (record { root = t.root; is_root = t.is_root; chain = hop t.chain (names-link r.objects o x p e m) }) g

  pub objects-whole : Whole (with_objects left r)
  objects-whole = record {
    limits = record {
      classes = w.limits.classes;
      kept = w.limits.kept;
      cache = w.limits.cache;
      ties = w.limits.ties;
      subtypes = w.limits.subtypes;
      objects = omega (arith, swept-length (reached r.objects all) 0 r.objects, w.limits.objects);
      quote = w.limits.quote;
      report = w.limits.report;
      trace = w.limits.trace;
    };
    classes = w.classes;
    cache = w.cache;
    ties = w.ties;
    subtypes = w.subtypes;
    objects = rows-kept (Exists r.objects) (Exists left) (world_of r).base (length r.classes) (reached r.objects all) 0 r.objects w.objects field-stays;
    quote = frames-kept (Exists r.objects) (Exists left) (length r.classes) r.quote w.quote (λ o m. root-stays o (roots-left r.quote r.report o m));
    report = frames-kept (Exists r.objects) (Exists left) (length r.classes) r.report w.report (λ o m. root-stays o (roots-right r.quote r.report o m));
    numbers = w.numbers;
    share = omega (arith, swept-made 1 (reached r.objects all) 0 r.objects, w.share);
  }
