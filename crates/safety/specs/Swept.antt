-- A sweep keeps every value in its place: what a frame names, or a field of an object that stays, is reached and so stays as it is.
use Rattle.std.specs.Prelude.{◌≡◌, refl, ℕ}
use Rattle.std.proofs.Math.Option.{Option, none, some}
use mathlib.Core.List.{List, [], ◌∷◌, ◌++◌, Memᴰ}
use Rattle.definition.specs.Chains.{stay, hop}
use Rattle.definition.specs.Classes.{loader_of, slots}
use Rattle.definition.specs.Constraints.{World}
use Rattle.definition.specs.Lists.{Each}
use Rattle.definition.specs.Machine.{Value, empty_value, int_value, null_value, object_value, unlisted_value, Object, Objects, existing, Frame}
use Rattle.definition.specs.Sweeping.{named, roots, Reached}
use Rattle.definition.specs.Verifier.{VerifierType, type_int, type_null, type_class, type_of_name}
use Rattle.laws.specs.Sweeps.{member-left, member_right, names-link, swept, sweep-keeps, sweep-left, roots-left, roots-right}
use Rattle.safety.specs.Store.{Store}
use Rattle.safety.specs.Valid.{Conforms, Exists, Local, Under, Stack}
use Rattle.safety.specs.Safe.{Valid}

-- what names the first value names, and the others, the list names
first-named : (v : Value) (vs : List Value) (o : ℕ) → v ≡ object_value o → Memᴰ o (named (v ∷ vs))
first-named v vs o e = rw e (unfold named in Memᴰ.head refl)

rest-named : (v : Value) (vs : List Value) (o : ℕ) → Memᴰ o (named vs) → Memᴰ o (named (v ∷ vs))
unfolding named
rest-named empty_value vs o m = m
rest-named (int_value n) vs o m = m
rest-named null_value vs o m = m
rest-named (object_value p) vs o m = Memᴰ.tail m
rest-named (unlisted_value a b) vs o m = m

-- Objects os become qs: those that are named stay as they are

module _ (w : World) (os qs : Objects) where
  abbrev Stays : List ℕ → Type 0
  Stays ns = (o : ℕ) → Memᴰ o ns → (b : Object) → existing os o ≡ some b → existing qs o ≡ some b

  abbrev One : Value → Type 0
  One v = (o : ℕ) → v ≡ object_value o → (b : Object) → existing os o ≡ some b → existing qs o ≡ some b

  conforms-stays : (l : ℕ) (t : VerifierType) (v : Value) → One v → Conforms w os l t v → Conforms w qs l t v
  conforms-stays l type_int empty_value k h = h
  conforms-stays l type_int (int_value n) k h = h
  conforms-stays l type_int null_value k h = h
  conforms-stays l type_int (object_value o) k h = h
  conforms-stays l type_int (unlisted_value a b) k h = h
  conforms-stays l type_null empty_value k h = h
  conforms-stays l type_null (int_value n) k h = h
  conforms-stays l type_null null_value k h = h
  conforms-stays l type_null (object_value o) k h = h
  conforms-stays l type_null (unlisted_value a b) k h = h
  conforms-stays l (type_class n) empty_value k h = h
  conforms-stays l (type_class n) (int_value m) k h = h
  conforms-stays l (type_class n) null_value k h = h
  conforms-stays l (type_class n) (object_value o) k h = record { object = h.object; there = k o refl h.object h.there; fits = h.fits }
  conforms-stays l (type_class n) (unlisted_value a b) k h = h

  exists-stays : (v : Value) → One v → Exists os v → Exists qs v
  exists-stays empty_value k h = h
  exists-stays (int_value n) k h = h
  exists-stays null_value k h = h
  exists-stays (object_value o) k h = (h.0, k o refl h.0 h.1)
  exists-stays (unlisted_value a b) k h = h

  local-stays : (l : ℕ) (t : Option VerifierType) (v : Value) → One v → Local w os l t v → Local w qs l t v
  local-stays l none v k h = exists-stays v k h
  local-stays l (some t) v k h = conforms-stays l t v k h

  -- value by value
  each-stays : {A : Type 0} (R S : A → Value → Type 0) → ((a : A) (v : Value) → One v → R a v → S a v) → (xs : List A) (vs : List Value) → Stays (named vs) → Each R xs vs → Each S xs vs
  each-stays R S f [] [] k h = tt
  each-stays R S f [] (v ∷ vs) k h = h
  each-stays R S f (a ∷ xs) [] k h = h
  each-stays R S f (a ∷ xs) (v ∷ vs) k h =
      (f a v (λ o e. k o (first-named v vs o e)) h.0, each-stays R S f xs vs (λ o m. k o (rest-named v vs o m)) h.1)

  operands-stay : (l : ℕ) (ts : List VerifierType) (vs : List Value) → Stays (named vs) → Each (Conforms w os l) ts vs → Each (Conforms w qs l) ts vs
  operands-stay l ts vs k h = each-stays (Conforms w os l) (Conforms w qs l) (conforms-stays l) ts vs k h

  locals-stay : (l : ℕ) (ts : List (Option VerifierType)) (vs : List Value) → Stays (named vs) → Each (Local w os l) ts vs → Each (Local w qs l) ts vs
  locals-stay l ts vs k h = each-stays (Local w os l) (Local w qs l) (local-stays l) ts vs k h

  -- frames, whose roots all stay
  module _ (f : Frame) (fs : List Frame) (k : Stays (roots (f ∷ fs))) where
    in-operands : Stays (named f.operands)
    in-operands o m = k o (unfold roots in member-left (named f.operands) _ m)

    in-locals : Stays (named f.locals)
    in-locals o m = k o (unfold roots in member_right (named f.operands) _ (member-left (named f.locals) (roots fs) m))

    below : Stays (roots fs)
    below o m = k o (unfold roots in member_right (named f.operands) _ (member_right (named f.locals) (roots fs) m))

  under_stays : (l r : ℕ) (fs : List Frame) → Stays (roots fs) → Under w os l r fs → Under w qs l r fs
  under_stays l r [] k h = h
  under_stays l r (g ∷ gs) k (c, m, x, t, u) = (
    c,
    m,
    record {
      τ = x.τ;
      top = x.top;
      others = x.others;
      typed = x.typed;
      split = x.split;
      takes = x.takes;
      operands = operands-stay c.loader x.others g.operands (in-operands g gs k) x.operands;
      locals = locals-stay c.loader x.τ.locals g.locals (in-locals g gs k) x.locals;
    },
    t,
    under_stays c.loader m.signature.result gs (below g gs k) u,
  )

  stack-stays : (fs : List Frame) → Stays (roots fs) → Stack w os fs → Stack w qs fs
  stack-stays [] k h = h
  stack-stays (f ∷ fs) k (c, m, x, u) = (
    c,
    m,
    record {
      τ = x.τ;
      typed = x.typed;
      operands = operands-stay c.loader x.τ.operands f.operands (in-operands f fs k) x.operands;
      locals = locals-stay c.loader x.τ.locals f.locals (in-locals f fs k) x.locals;
    },
    under_stays c.loader m.signature.result fs (below f fs k) u,
  )

module _ (s : Store) where
  abbrev all : List Frame
  all = s.quote ++ s.report

  abbrev left : Objects
  left = swept s.objects all

  roots-stay : Stays s.world s.objects left (roots all)
  roots-stay o m b e = sweep-keeps s.objects all o b e (record { root = o; is_root = m; chain = stay refl })

  fields-stay : (o : ℕ) (b : Object) → existing s.objects o ≡ some b → Reached s.objects all o → Stays s.world s.objects left (named b.values)
  fields-stay o b e r p m c q =
      sweep-keeps s.objects all p c q (record { root = r.root; is_root = r.is_root; chain = hop r.chain (names-link s.objects o b p e m) })

  pub valid-swept : Valid s → Valid (record { world = s.world; objects = left; quote = s.quote; report = s.report })
  valid-swept v = record {
    linked = v.linked;
    heap = λ o b e.
        let x = sweep-left s.objects all o b e in
        let h = v.heap o b x.0 in
        record {
          the_class = h.the_class;
          is_class = h.is_class;
          filled = each-stays s.world s.objects left _ _ (λ a u. conforms-stays s.world s.objects left (loader_of s.world.base a.owner) (type_of_name a.type) u)
              (slots s.world.base b.class) b.values (fields-stay o b x.0 x.1) h.filled;
        };
    quote = stack-stays s.world s.objects left s.quote (λ o m. roots-stay o (roots-left s.quote s.report o m)) v.quote;
    report = stack-stays s.world s.objects left s.report (λ o m. roots-stay o (roots-right s.quote s.report o m)) v.report;
  }
