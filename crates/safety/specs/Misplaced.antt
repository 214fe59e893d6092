-- Misplaced values: there are none where the invariant holds.
use Rattle.std.specs.Prelude.{◌≡◌, Bool, ℕ, suc, ◌<◌, length, ltb}
use Rattle.std.proofs.Math.Path.{refl}
use Rattle.std.proofs.Common.{◌∙◌, lt-ltb}
use Rattle.std.proofs.Math.Bool.{true, false}
use Rattle.std.proofs.Math.Option.{Option, none, some}
use mathlib.Core.List.{reverse, List, [], ◌∷◌}
use Rattle.definition.specs.Classes.{Class, Method, find, loader_of, slots, super_of}
use Rattle.definition.specs.Constraints.{Agrees, World}
use Rattle.definition.specs.Machine.{Frame, Object, Value, int_value, null_value, object_value, empty_value, unlisted_value, existing, Objects, free, owned, object_held}
use Rattle.definition.specs.Misplaced.{failures, misplaced_fields, misplaced_in_frame, misplaced_in_frames, placed, placed_local, types_of, waiting_types, misplaced_in}
use Rattle.definition.specs.Requests.{at}
use Rattle.definition.specs.Superclasses.{below}
use Rattle.definition.specs.Verifier.{TypeState, VerifierType, type_class, type_int, type_null, type_of_name}
use Rattle.laws.specs.Agreement.{super-falls}
use Rattle.laws.specs.Upward.{true_below}
use Rattle.safety.specs.Conform.{fits_below}
use Rattle.safety.specs.Safe.{Valid}
use Rattle.safety.specs.Valid.{Conforms, Linked, Local, Stack, Typed, Under}
use Rattle.laws.specs.Options.{some-bind, each-reverse}
use Rattle.definition.specs.Tables.{Rows, world_of}
use Rattle.laws.specs.Objects.{existing-tail}
use Rattle.safety.specs.Store.{store_of}
use Rattle.definition.specs.Lists.{Each}
use Rattle.definition.specs.Maybe.{need}
use Rattle.laws.specs.Sized.{within}
use Rattle.laws.specs.Walk.{known}

-- What conforms is placed

conforms-placed : (w : World) (os : Objects) → Agrees w → (l : ℕ) (t : VerifierType) (v : Value) → Conforms w os l t v → placed w os l t v ≡ true
unfolding placed
conforms-placed w os g l type_int empty_value h = absurd h
conforms-placed w os g l type_int (unlisted_value α β) h = absurd h
conforms-placed w os g l type_int (int_value n) h = refl
conforms-placed w os g l type_int null_value h = absurd h
conforms-placed w os g l type_int (object_value o) h = absurd h
conforms-placed w os g l type_null empty_value h = absurd h
conforms-placed w os g l type_null (unlisted_value α β) h = absurd h
conforms-placed w os g l type_null (int_value n) h = absurd h
conforms-placed w os g l type_null null_value h = refl
conforms-placed w os g l type_null (object_value o) h = absurd h
conforms-placed w os g l (type_class n) empty_value h = absurd h
conforms-placed w os g l (type_class n) (unlisted_value α β) h = absurd h
conforms-placed w os g l (type_class n) (int_value m) h = absurd h
conforms-placed w os g l (type_class n) null_value h = refl
conforms-placed w os g l (type_class n) (object_value o) h = rw (h.there, placed) (go (find w.base.cache (at l n)) refl)
  where
    go : (x : Option ℕ) → find w.base.cache (at l n) ≡ x → (elim x as (λ _. Bool) [ none ↦ true | some d ↦ below (super_of w.base) h.object.class d ]) ≡ true
    go none e = refl
    go (some d) e = true_below (super_of w.base) (super-falls w.base) h.object.class d (fits_below g h.fits e)

local-placed : (w : World) (os : Objects) → Agrees w → (l : ℕ) (t : Option VerifierType) (v : Value) → Local w os l t v → placed_local w os l t v ≡ true
unfolding placed_local
local-placed w os g l none v h = refl
local-placed w os g l (some t) v h = conforms-placed w os g l t v h

pub none-bad : {A B : Type 0} (R : A → B → Type 0) (f : A → B → Bool) → ((x : A) (y : B) → R x y → f x y ≡ true) → (xs : List A) (ys : List B) → Each R xs ys → failures f xs ys ≡ 0
unfolding failures
none-bad R f g [] [] h = refl
none-bad R f g [] (y ∷ ys) h = absurd h
none-bad R f g (x ∷ xs) [] h = absurd h
none-bad R f g (x ∷ xs) (y ∷ ys) h = rw (g x y h.0, failures) (none-bad R f g xs ys h.1)

module _ (w : World) (os : Objects) (lk : Linked w) where
  objects-placed : (bs : Objects) → ((o : ℕ) (b : Object) → existing bs o ≡ some b → Each (λ s v. Conforms w os (loader_of w.base s.owner) (type_of_name s.type) v) (slots w.base b.class) b.values) → misplaced_fields w os bs ≡ 0
  unfolding misplaced_fields
  objects-placed [] h = refl
  objects-placed (free ∷ bs) h = objects-placed bs (λ o b e. h (suc o) b (existing-tail free bs o ∙ e))
  objects-placed (owned k b ∷ bs) h = rw (none-bad _ (λ s v. placed w os (loader_of w.base s.owner) (type_of_name s.type) v) (λ s v c. conforms-placed w os lk.agreed _ _ v c) (slots w.base b.class) b.values (h 0 b (unfold existing object_held in refl)), objects-placed bs (λ o c e. h (suc o) c (existing-tail (owned k b) bs o ∙ e))) refl

  point-in : (f : Frame) (k : Class) (m : Method) (τ : TypeState) → Typed w f k m τ → f.point < length m.code
  point-in f k m τ t =
      let v = lk.verified f.class f.method k m t.is_class t.is_method in
      let kn = known k m v.notes v.passes f.point τ t.types in
      within k.version m.code f.point kn.at kn.reads

  frame-placed : (waits : Bool) (f : Frame) (k : Class) (m : Method) (τ : TypeState) (ts : List VerifierType) → Typed w f k m τ → waiting_types waits τ.operands ≡ some ts
      → Each (Conforms w os k.loader) ts f.operands → Each (Local w os k.loader) τ.locals f.locals → misplaced_in_frame w os waits f ≡ 0
  unfolding misplaced_in_frame
  frame-placed waits f k m τ ts t e a b = rw (types_are, misplaced_in_frame)
      (rw (
        none-bad _ (placed w os k.loader) (conforms-placed w os lk.agreed k.loader) (reverse ts) (reverse f.operands) (each-reverse (Conforms w os k.loader) ts f.operands a),
        none-bad _ (placed_local w os k.loader) (local-placed w os lk.agreed k.loader) τ.locals f.locals b,
      ) refl)
    where
      inside : need (ltb f.point (length m.code)) ≡ some tt
      inside = unfold need in rw (lt-ltb f.point (length m.code) (point-in f k m τ t)) refl

      types_are : types_of w waits f ≡ some (record { loader = k.loader; operands = ts; locals = τ.locals })
      types_are = unfold types_of in some-bind _ _ t.is_class (some-bind _ _ t.is_method (some-bind _ _ inside (some-bind _ _ t.types (some-bind _ _ e refl))))

  under-placed : (l r : ℕ) (fs : List Frame) → Under w os l r fs → misplaced_in_frames w os true fs ≡ 0
  unfolding misplaced_in_frames waiting_types
  under-placed l r [] h = refl
  under-placed l r (f ∷ fs) (k, m, x, t, u) =
      rw (frame-placed true f k m x.τ x.others x.typed (rw (x.split, waiting_types) refl) x.operands x.locals, under-placed k.loader m.signature.result fs u) refl

  stack-placed : (fs : List Frame) → Stack w os fs → misplaced_in_frames w os false fs ≡ 0
  unfolding misplaced_in_frames waiting_types
  stack-placed [] h = refl
  stack-placed (f ∷ fs) (k, m, x, u) =
      rw (frame-placed false f k m x.τ x.τ.operands x.typed refl x.operands x.locals, under-placed k.loader m.signature.result fs u) refl

pub valid-placed : (r : Rows) → Valid (store_of r) → misplaced_in r ≡ 0
unfolding misplaced_in
valid-placed r v =
    rw (
      objects-placed (world_of r) r.objects v.linked r.objects (λ o b e. (v.heap o b e).filled),
      stack-placed (world_of r) r.objects v.linked r.quote v.quote,
      stack-placed (world_of r) r.objects v.linked r.report v.report,
    ) refl
