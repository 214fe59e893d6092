-- No value is counted as misplaced exactly if each field, operand and set local is placed in the words of demand 3.
use Rattle.std.proofs.Math.Path.{◌≡◌, refl}
use Rattle.std.proofs.Common.{sym, ◌∙◌, arith}
use Rattle.std.specs.Prelude.{Bool, false}
use Rattle.std.proofs.Math.Bool.{true}
use Rattle.std.proofs.lemmas.Bool.{false≢true}
use Rattle.std.proofs.Math.Option.{Option, none, some, none-ne-some, some-injective}
use mathlib.Core.List.{List, [], ◌∷◌, reverse, reverse-reverse}
use Prim.Native.Nat.{ℕ, zero, suc, ◌+◌}
use Rattle.definition.specs.Lists.{Each}
use Rattle.definition.specs.Requests.{at}
use Rattle.definition.specs.Superclasses.{Below, below}
use Rattle.definition.specs.Classes.{find, super_of, loader_of, slots}
use Rattle.definition.specs.Constraints.{World}
use Rattle.definition.specs.Verifier.{VerifierType, type_int, type_null, type_class, type_of_name}
use Rattle.definition.specs.Machine.{Value, empty_value, int_value, null_value, object_value, unlisted_value, Object, Frame, existing, Objects, free, owned, object_held}
use Rattle.definition.specs.Tables.{Rows, world_of}
use Rattle.definition.specs.Misplaced.{Placed, placed, PlacedLocal, placed_local, failures, misplaced_fields, FrameTypes, types_of, misplaced_in_frame, misplaced_in_frames, misplaced_in, FieldsPlaced, FramePlaced, FramesPlaced, AllPlaced}
use Rattle.laws.specs.Upward.{below_true, true_below}
use Rattle.laws.specs.Agreement.{super-falls}
use Rattle.laws.specs.Objects.{existing-none, existing-tail}
use Rattle.laws.specs.Options.{each_more, each-reverse}
use Rattle.safety.specs.Misplaced.{none-bad}

-- The test and the words, for one value

module _ (w : World) (os : Objects) (l : ℕ) where
  Loaded : Object → Option ℕ → Bool
  Loaded b x = elim x as (λ _. Bool) [ none ↦ true | some d ↦ below (super_of w.base) b.class d ]

  loaded-is : (b : Object) (x : Option ℕ) → Loaded b x ≡ true → (d : ℕ) → x ≡ some d → Below (super_of w.base) b.class d
  unfolding Loaded
  loaded-is b none q d e = absurd (none-ne-some d e)
  loaded-is b (some c) q d e = rw (some-injective c d e) at (below_true (super_of w.base) (super-falls w.base) b.class c q)

  is-loaded : (b : Object) (x : Option ℕ) → ((d : ℕ) → x ≡ some d → Below (super_of w.base) b.class d) → Loaded b x ≡ true
  unfolding Loaded
  is-loaded b none h = refl
  is-loaded b (some c) h = true_below (super_of w.base) (super-falls w.base) b.class c (h c refl)

  object-is : (n o : ℕ) (x : Option Object) → existing os o ≡ x → (elim x as (λ _. Bool) [ none ↦ false | some b ↦ Loaded b (find w.base.cache (at l n)) ]) ≡ true
      → Placed w os l (type_class n) (object_value o)
  object-is n o none e q = absurd (false≢true q)
  object-is n o (some b) e q = (b, e, loaded-is b (find w.base.cache (at l n)) q)

  pub placed-is : (t : VerifierType) (v : Value) → placed w os l t v ≡ true → Placed w os l t v
  unfolding placed Loaded
  placed-is type_int empty_value h = absurd (false≢true h)
  placed-is type_int (int_value n) h = tt
  placed-is type_int null_value h = absurd (false≢true h)
  placed-is type_int (object_value o) h = absurd (false≢true h)
  placed-is type_int (unlisted_value k b) h = absurd (false≢true h)
  placed-is type_null empty_value h = absurd (false≢true h)
  placed-is type_null (int_value n) h = absurd (false≢true h)
  placed-is type_null null_value h = tt
  placed-is type_null (object_value o) h = absurd (false≢true h)
  placed-is type_null (unlisted_value k b) h = absurd (false≢true h)
  placed-is (type_class n) empty_value h = absurd (false≢true h)
  placed-is (type_class n) (int_value m) h = absurd (false≢true h)
  placed-is (type_class n) null_value h = tt
  placed-is (type_class n) (object_value o) h = object-is n o (existing os o) refl h
  placed-is (type_class n) (unlisted_value k b) h = absurd (false≢true h)

  pub is-placed : (t : VerifierType) (v : Value) → Placed w os l t v → placed w os l t v ≡ true
  unfolding placed Loaded
  is-placed type_int empty_value h = absurd h
  is-placed type_int (int_value n) h = refl
  is-placed type_int null_value h = absurd h
  is-placed type_int (object_value o) h = absurd h
  is-placed type_int (unlisted_value k b) h = absurd h
  is-placed type_null empty_value h = absurd h
  is-placed type_null (int_value n) h = absurd h
  is-placed type_null null_value h = refl
  is-placed type_null (object_value o) h = absurd h
  is-placed type_null (unlisted_value k b) h = absurd h
  is-placed (type_class n) empty_value h = absurd h
  is-placed (type_class n) (int_value m) h = absurd h
  is-placed (type_class n) null_value h = refl
  is-placed (type_class n) (object_value o) (b, e, f) = rw (e, placed) (is-loaded b (find w.base.cache (at l n)) f)
  is-placed (type_class n) (unlisted_value k b) h = absurd h

  pub local-is : (t : Option VerifierType) (v : Value) → placed_local w os l t v ≡ true → PlacedLocal w os l t v
  unfolding placed_local
  local-is none v h = tt
  local-is (some t) v h = placed-is t v h

  pub is-local : (t : Option VerifierType) (v : Value) → PlacedLocal w os l t v → placed_local w os l t v ≡ true
  unfolding placed_local
  is-local none v h = refl
  is-local (some t) v h = is-placed t v h

-- Nothing fails: element by element, each passes

bad-none : {A B : Type 0} (f : A → B → Bool) (xs : List A) (ys : List B) → failures f xs ys ≡ 0 → Each (λ x y. f x y ≡ true) xs ys
unfolding failures
bad-none f [] [] h = tt
bad-none f [] (y ∷ ys) h = absurd (omega arith)
bad-none f (x ∷ xs) [] h = absurd (omega arith)
bad-none f (x ∷ xs) (y ∷ ys) h = go (f x y) refl h (bad-none f xs ys)
  where
    go : (t : Bool) → f x y ≡ t → ◌≡◌ {A = ℕ} (elim t as (λ _. ℕ) [ true ↦ failures f xs ys | false ↦ 1 + failures f xs ys ]) 0
        → (failures f xs ys ≡ 0 → Each (λ x y. f x y ≡ true) xs ys) → (f x y ≡ true) × Each (λ x y. f x y ≡ true) xs ys
    go true e q ih = (e, ih q)
    go false e q ih = absurd (omega arith)

failing : {A B : Type 0} (f : A → B → Bool) (R : A → B → Type 0) → ((x : A) (y : B) → f x y ≡ true → R x y) → (xs : List A) (ys : List B) → failures f xs ys ≡ 0 → Each R xs ys
failing f R g xs ys h = each_more g xs ys (bad-none f xs ys h)

turned : {A B : Type 0} (R : A → B → Type 0) (xs : List A) (ys : List B) → Each R (reverse xs) (reverse ys) → Each R xs ys
turned R xs ys h = rw (reverse-reverse xs, reverse-reverse ys) at (each-reverse R (reverse xs) (reverse ys) h)

sum-zero : (a b : ℕ) → a + b ≡ 0 → (a ≡ 0) × (b ≡ 0)
sum-zero a b h = (omega arith, omega arith)

-- Fields

module _ (w : World) (os : Objects) where
  fields-words : (bs : Objects) → misplaced_fields w os bs ≡ 0 → (o : ℕ) (b : Object) → existing bs o ≡ some b → FieldsPlaced w os b
  unfolding misplaced_fields
  fields-words [] h o b e = absurd (none-ne-some b (sym (existing-none o) ∙ e))
  fields-words (free ∷ bs) h zero b e = absurd (none-ne-some b (unfold existing object_held in e))
  fields-words (free ∷ bs) h (suc o) b e = fields-words bs h o b (sym (existing-tail free bs o) ∙ e)
  fields-words (owned k c ∷ bs) h zero b e =
      let q : c ≡ b = some-injective c b (unfold existing object_held in e) in
      rw q at
      (failing _ _ (λ s v. placed-is w os (loader_of w.base s.owner) (type_of_name s.type) v) (slots w.base c.class) c.values (sum-zero _ _ h).0)
  fields-words (owned k c ∷ bs) h (suc o) b e = fields-words bs (sum-zero _ _ h).1 o b (sym (existing-tail (owned k c) bs o) ∙ e)

  words-fields : (bs : Objects) → ((o : ℕ) (b : Object) → existing bs o ≡ some b → FieldsPlaced w os b) → misplaced_fields w os bs ≡ 0
  unfolding misplaced_fields
  words-fields [] h = refl
  words-fields (free ∷ bs) h = words-fields bs (λ o b e. h (suc o) b (existing-tail free bs o ∙ e))
  words-fields (owned k c ∷ bs) h =
      rw (
        none-bad _ (λ s v. placed w os (loader_of w.base s.owner) (type_of_name s.type) v)
            (λ s v. is-placed w os (loader_of w.base s.owner) (type_of_name s.type) v) (slots w.base c.class) c.values (h 0 c (unfold existing object_held in refl)),
        words-fields bs (λ o b e. h (suc o) b (existing-tail (owned k c) bs o ∙ e)),
      ) refl

  -- Frames

  frame-words : (waits : Bool) (f : Frame) → misplaced_in_frame w os waits f ≡ 0 → FramePlaced w os waits f
  unfolding misplaced_in_frame
  frame-words waits f h = go (types_of w waits f) refl h
    where
      go : (x : Option FrameTypes) → types_of w waits f ≡ x
          → ◌≡◌ {A = ℕ} (elim x as (λ _. ℕ) [ none ↦ 1 | some y ↦ failures (placed w os y.loader) (reverse y.operands) (reverse f.operands) + failures (placed_local w os y.loader) y.locals f.locals ]) 0
          → FramePlaced w os waits f
      go none e q = absurd (omega arith)
      go (some y) e q = let z = sum-zero _ _ q in record {
        types = y;
        has = e;
        operands = turned (Placed w os y.loader) y.operands f.operands (failing _ _ (placed-is w os y.loader) (reverse y.operands) (reverse f.operands) z.0);
        locals = failing _ _ (local-is w os y.loader) y.locals f.locals z.1;
      }

  words-frame : (waits : Bool) (f : Frame) → FramePlaced w os waits f → misplaced_in_frame w os waits f ≡ 0
  unfolding misplaced_in_frame
  words-frame waits f h = let y = h.types in rw (h.has, misplaced_in_frame)
      (rw (
        none-bad _ (placed w os y.loader) (is-placed w os y.loader) (reverse y.operands) (reverse f.operands) (each-reverse (Placed w os y.loader) y.operands f.operands h.operands),
        none-bad _ (placed_local w os y.loader) (is-local w os y.loader) y.locals f.locals h.locals,
      ) refl)

  frames-words : (waits : Bool) (fs : List Frame) → misplaced_in_frames w os waits fs ≡ 0 → FramesPlaced w os waits fs
  unfolding misplaced_in_frames
  frames-words waits [] h = tt
  frames-words waits (f ∷ fs) h = let z = sum-zero _ _ h in (frame-words waits f z.0, frames-words true fs z.1)

  words-frames : (waits : Bool) (fs : List Frame) → FramesPlaced w os waits fs → misplaced_in_frames w os waits fs ≡ 0
  unfolding misplaced_in_frames
  words-frames waits [] h = refl
  words-frames waits (f ∷ fs) h = rw (words-frame waits f h.0, words-frames true fs h.1) refl

-- Both ways

pub placed-words : (r : Rows) → misplaced_in r ≡ 0 → AllPlaced r
unfolding misplaced_in
placed-words r h =
    let a = sum-zero _ _ h in
    let b = sum-zero _ _ a.0 in
    record {
      fields = fields-words (world_of r) r.objects r.objects b.0;
      quote = frames-words (world_of r) r.objects false r.quote b.1;
      report = frames-words (world_of r) r.objects false r.report a.1;
    }

pub words_placed : (r : Rows) → AllPlaced r → misplaced_in r ≡ 0
unfolding misplaced_in
words_placed r h =
    rw (
      words-fields (world_of r) r.objects r.objects h.fields,
      words-frames (world_of r) r.objects false r.quote h.quote,
      words-frames (world_of r) r.objects false r.report h.report,
    ) refl
