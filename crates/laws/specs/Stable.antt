-- What a class means does not change when classes and cache entries are added.
use Rattle.std.specs.Prelude.{◌≡◌, ◌⊎◌}
use Rattle.std.proofs.Math.Path.{refl, ap}
use Rattle.std.proofs.Common.{sym, ◌∙◌, arith}
use Rattle.std.proofs.Math.Bool.{Bool, true, false}
use Rattle.std.proofs.lemmas.Bool.{false≢true}
use Rattle.std.proofs.Math.Option.{Option, none, some, some-ne-none, some-injective}
use mathlib.Core.List.Memᴰ
use mathlib.Core.List.{List, [], ◌∷◌, ◌++◌, map, Memᴰ}
use Rattle.std.proofs.Math.Logic.{inl, inr}
use Prim.Native.Nat.{ℕ, zero, suc, ◌<◌}
use Rattle.std.proofs.Math.ListN.{get_elem?}
use Rattle.std.proofs.Math.Dec.{eqb}
use Rattle.definition.specs.Classes.{Base, Class, Entry, Field, Method, Selected, Slot, alike, find, has_field, has_method, loader_of, methods_of, own_slots, selected, slot_is, slots, slots_in, super_of}
use Rattle.definition.specs.Constraints.{World}
use Rattle.definition.specs.declared.Signature.{Signature}
use Rattle.definition.specs.Lists.{any, index_of}
use Rattle.definition.specs.Maybe.{◌>>=◌}
use Rattle.definition.specs.Requests.{Request, at, same_request}
use Rattle.definition.specs.Superclasses.{below, nearest, seek}
use Rattle.laws.specs.Agreement.{super-falls, super-is}
use Rattle.laws.specs.Chains.{requests}
use Rattle.laws.specs.Growth.{Grows, grows-super}
use Rattle.laws.specs.Upward.{nearest-below}

-- each class that is cached is there, and each but the first has its superclass
pub record Rooted (b : Base) : Type 0 where
  pub real : (r : Request) (c : ℕ) → find b.cache r ≡ some c → (k : Class) × (get_elem? b.classes c ≡ some k)
  pub supers : (c : ℕ) (k : Class) → get_elem? b.classes c ≡ some k → 0 < c → (p : ℕ) × (super_of b c ≡ some p)

-- the cache with one more row
pub find-last : (es : List Entry) (e : Entry) → find es e.request ≡ none → find (es ++ (e ∷ [])) e.request ≡ some e.class
unfolding find
find-last [] e h = rw (requests.same_refl e.request, find) refl
find-last (d ∷ es) e h = go (same_request d.request e.request) h (find-last es e)
  where
    go : (t : Bool) → ◌≡◌ {A = Option ℕ} (elim t as (λ _. Option ℕ) [ true ↦ some d.class | false ↦ find es e.request ]) none → (find es e.request ≡ none → find (es ++ (e ∷ [])) e.request ≡ some e.class)
        → (elim t as (λ _. Option ℕ) [ true ↦ some d.class | false ↦ find (es ++ (e ∷ [])) e.request ]) ≡ some e.class
    go true q f = absurd (some-ne-none d.class q)
    go false q f = f q

pub find-snoc : (es : List Entry) (e : Entry) (r : Request) (c : ℕ) → find (es ++ (e ∷ [])) r ≡ some c → (find es r ≡ some c) ⊎ (c ≡ e.class)
unfolding find
find-snoc [] e r c h = go (same_request e.request r) h
  where
    go : (t : Bool) → (elim t as (λ _. Option ℕ) [ true ↦ some e.class | false ↦ none ]) ≡ some c → (◌≡◌ {A = Option ℕ} none (some c)) ⊎ (c ≡ e.class)
    go true q = inr (sym (some-injective e.class c q))
    go false q = inl q
find-snoc (d ∷ es) e r c h = go (same_request d.request r) h (find-snoc es e r c)
  where
    go : (t : Bool) → (elim t as (λ _. Option ℕ) [ true ↦ some d.class | false ↦ find (es ++ (e ∷ [])) r ]) ≡ some c → (find (es ++ (e ∷ [])) r ≡ some c → (find es r ≡ some c) ⊎ (c ≡ e.class))
        → ((elim t as (λ _. Option ℕ) [ true ↦ some d.class | false ↦ find es r ]) ≡ some c) ⊎ (c ≡ e.class)
    go true q f = inl q
    go false q f = f q

pub methods-is : (b : Base) (c : ℕ) (k : Class) → get_elem? b.classes c ≡ some k → methods_of b c ≡ k.methods
unfolding methods_of
methods-is b c k h = rw (h, methods_of) refl

pub loader-is : (b : Base) (c : ℕ) (k : Class) → get_elem? b.classes c ≡ some k → loader_of b c ≡ k.loader
unfolding loader_of
loader-is b c k h = rw (h, loader_of) refl

pub has-is : (b : Base) (s : Signature) (c : ℕ) (k : Class) → get_elem? b.classes c ≡ some k → has_method b s c ≡ any (alike s) k.methods
unfolding has_method
has-is b s c k h = rw (methods-is b c k h) refl

pub own_is : (b : Base) (c : ℕ) (k : Class) → get_elem? b.classes c ≡ some k → own_slots b c ≡ map (λ f. record { owner = c; name = f.name; type = f.type }) k.fields
unfolding own_slots
own_is b c k h = rw (h, own_slots) refl

-- a class that has a method is there
pub has-class : (b : Base) (s : Signature) (c : ℕ) → has_method b s c ≡ true → (k : Class) × (get_elem? b.classes c ≡ some k)
unfolding has_method methods_of any
has-class b s c h = go (get_elem? b.classes c) refl h
  where
    go : (o : Option Class) → get_elem? b.classes c ≡ o → any (alike s) (elim o as (λ _. List Method) [ none ↦ [] | some k ↦ k.methods ]) ≡ true → (k : Class) × (get_elem? b.classes c ≡ some k)
    go none e q = absurd (false≢true q)
    go (some k) e q = (k, e)

map-owner : (c : ℕ) (fs : List Field) (s : Slot) → Memᴰ s (map (λ f. record { owner = c; name = f.name; type = f.type }) fs) → s.owner ≡ c
map-owner c [] s m = absurd (Memᴰ.not-nil m)
map-owner c (f ∷ fs) s (Memᴰ.head e) = ap (λ (z : Slot). z.owner) e
map-owner c (f ∷ fs) s (Memᴰ.tail m) = map-owner c fs s m

super-zero : (b : Base) → super_of b 0 ≡ none
super-zero b = go (super_of b 0) refl
  where
    go : (o : Option ℕ) → super_of b 0 ≡ o → o ≡ none
    go none e = refl
    go (some p) e = absurd (omega (arith, super-falls b 0 p e))

module _ (v w : World) (lk : Rooted v.base) (gr : Grows v w) where
  abbrev Real : ℕ → Type 0
  Real c = (k : Class) × (get_elem? v.base.classes c ≡ some k)

  pub real-super : (c p : ℕ) → super_of v.base c ≡ some p → Real p
  real-super c p h = let s = super-is v.base c p h in lk.real (at s.the_class.loader s.the_class.super) p s.cached

  pub super-stable : (c : ℕ) → Real c → super_of w.base c ≡ super_of v.base c
  super-stable zero r = super-zero w.base ∙ sym (super-zero v.base)
  super-stable (suc c) r = let s = lk.supers (suc c) r.0 r.1 (omega arith) in grows-super gr (suc c) s.0 s.1 ∙ sym s.1

  seek-stable : (t u : ℕ → Bool) → ((c : ℕ) → Real c → u c ≡ t c) → (j c : ℕ) → Real c → seek (super_of w.base) u j c ≡ seek (super_of v.base) t j c
  unfolding seek
  seek-stable t u same zero c r = refl
  seek-stable t u same (suc j) c r =
      ap (λ (x : Bool). F x (super_of w.base c) (seek (super_of w.base) u j)) (same c r)
      ∙ ap (λ (o : Option ℕ). F (t c) o (seek (super_of w.base) u j)) (super-stable c r)
      ∙ go (t c) (super_of v.base c) refl (λ p q. seek-stable t u same j p q)
    where
      F : Bool → Option ℕ → (ℕ → Option ℕ) → Option ℕ
      F x o g = elim x as (λ _. Option ℕ) [ true ↦ some c | false ↦ elim o as (λ _. Option ℕ) [ none ↦ none | some p ↦ g p ] ]

      go : (x : Bool) (o : Option ℕ) → super_of v.base c ≡ o → ((p : ℕ) → Real p → seek (super_of w.base) u j p ≡ seek (super_of v.base) t j p)
          → F x o (seek (super_of w.base) u j) ≡ F x o (seek (super_of v.base) t j)
      go true o e f = refl
      go false none e f = refl
      go false (some p) e f = f p (real-super c p e)

  pub has-stable : (s : Signature) (c : ℕ) → Real c → has_method w.base s c ≡ has_method v.base s c
  has-stable s c q = has-is w.base s c q.0 (gr.classes c q.0 q.1) ∙ sym (has-is v.base s c q.0 q.1)

  pub nearest-stable : (s : Signature) (c : ℕ) → Real c → nearest (super_of w.base) (has_method w.base s) c ≡ nearest (super_of v.base) (has_method v.base s) c
  unfolding nearest
  nearest-stable s c q = seek-stable (has_method v.base s) (has_method w.base s) (has-stable s) (suc c) c q

  methods-stable : (c : ℕ) → Real c → methods_of w.base c ≡ methods_of v.base c
  methods-stable c q = methods-is w.base c q.0 (gr.classes c q.0 q.1) ∙ sym (methods-is v.base c q.0 q.1)

  -- class and place
  pub selected-stable : (s : Signature) (c : ℕ) → Real c → selected w.base s c ≡ selected v.base s c
  unfolding selected ◌>>=◌
  selected-stable s c q = ap (λ (o : Option ℕ). o >>= placed w.base) (nearest-stable s c q) ∙ go (nearest (super_of v.base) (has_method v.base s) c) refl
    where
      placed : Base → ℕ → Option Selected
      placed b d = index_of (alike s) (methods_of b d) >>= λ j. some (record { class = d; place = j })

      go : (o : Option ℕ) → nearest (super_of v.base) (has_method v.base s) c ≡ o → (o >>= placed w.base) ≡ (o >>= placed v.base)
      go none e = refl
      go (some d) e = rw (methods-stable d (has-class v.base s d (nearest-below (super_of v.base) (super-falls v.base) (has_method v.base s) c d e).1)) refl

  pub loader-stable : (c : ℕ) → Real c → loader_of w.base c ≡ loader_of v.base c
  loader-stable c q = loader-is w.base c q.0 (gr.classes c q.0 q.1) ∙ sym (loader-is v.base c q.0 q.1)

  own-stable : (c : ℕ) → Real c → own_slots w.base c ≡ own_slots v.base c
  own-stable c q = own_is w.base c q.0 (gr.classes c q.0 q.1) ∙ sym (own_is v.base c q.0 q.1)

  pub field-stable : (n t c : ℕ) → Real c → nearest (super_of w.base) (has_field w.base n t) c ≡ nearest (super_of v.base) (has_field v.base n t) c
  unfolding nearest has_field
  field-stable n t c q = seek-stable (has_field v.base n t) (has_field w.base n t) (λ x r. ap (any (slot_is x n t)) (own-stable x r)) (suc c) c q

  pub below-stable : (c d : ℕ) → Real c → below (super_of w.base) c d ≡ below (super_of v.base) c d
  unfolding below nearest
  below-stable c d q = ap (λ (o : Option ℕ). elim o as (λ _. Bool) [ none ↦ false | some _ ↦ true ]) (seek-stable (λ x. eqb x d) (λ x. eqb x d) (λ _ _. refl) (suc c) c q)

  slots-in-stable : (j c : ℕ) → Real c → slots_in j w.base c ≡ slots_in j v.base c
  unfolding slots_in
  slots-in-stable zero c q = own-stable c q
  slots-in-stable (suc j) c q = ap (λ (o : Option ℕ). F o (slots_in_w j) (own_slots w.base c)) (super-stable c q) ∙ go (super_of v.base c) refl (λ p r. slots-in-stable j p r)
    where
      slots_in_w : ℕ → ℕ → List Slot
      slots_in_w j p = slots_in j w.base p

      F : Option ℕ → (ℕ → List Slot) → List Slot → List Slot
      F o g s = elim o as (λ _. List Slot) [ none ↦ s | some p ↦ g p ++ s ]

      go : (o : Option ℕ) → super_of v.base c ≡ o → ((p : ℕ) → Real p → slots_in j w.base p ≡ slots_in j v.base p)
          → F o (λ p. slots_in j w.base p) (own_slots w.base c) ≡ F o (λ p. slots_in j v.base p) (own_slots v.base c)
      go none e f = own-stable c q
      go (some p) e f = rw (f p (real-super c p e), own-stable c q) refl

  pub slots-stable : (c : ℕ) → Real c → slots w.base c ≡ slots v.base c
  unfolding slots
  slots-stable c q = slots-in-stable c c q

  -- the owners of an object's fields are there
  own-real : (c : ℕ) → Real c → (s : Slot) → Memᴰ s (own_slots v.base c) → Real s.owner
  own-real c q s m = rw (sym (map-owner c q.0.fields s (rw (own_is v.base c q.0 q.1) at m))) at q

  pub slot-real : (j c : ℕ) → Real c → (s : Slot) → Memᴰ s (slots_in j v.base c) → Real s.owner
  unfolding slots_in
  slot-real zero c q s m = own-real c q s m
  slot-real (suc j) c q s m = go (super_of v.base c) refl m (λ p r. slot-real j p r s)
    where
      go : (o : Option ℕ) → super_of v.base c ≡ o → Memᴰ s (elim o as (λ _. List Slot) [ none ↦ own_slots v.base c | some p ↦ slots_in j v.base p ++ own_slots v.base c ])
          → ((p : ℕ) → Real p → Memᴰ s (slots_in j v.base p) → Real s.owner) → Real s.owner
      go none e m f = own-real c q s m
      go (some p) e m f = elim (Memᴰ.append_cases (slots_in j v.base p) m) [ inl x ↦ f p (real-super c p e) x | inr x ↦ own-real c q s x ]
