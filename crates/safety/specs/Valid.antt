-- The invariant: every value conforms to its place.
use Rattle.std.specs.Prelude.{◌≡◌, true, ◌≢◌, ◌⊎◌, ℕ, ◌<◌}
use Rattle.std.proofs.Math.Option.{Option, none, some}
use mathlib.Core.List.{List, [], ◌∷◌, Memᴰ}
use Rattle.std.proofs.Common.{inl, inr}
use Rattle.std.proofs.Math.ListN.{get_elem?}
use Rattle.definition.specs.declared.Signature.{Signature}
use Rattle.definition.specs.Classes.{Class, Method, find, has_method, loader_of, slots, super_of, signature_types}
use Rattle.definition.specs.Constraints.{Agrees, World, posted, subtype_edges}
use Rattle.definition.specs.Machine.{Frame, Object, Value, int_value, null_value, object_value, empty_value, unlisted_value, Objects, existing}
use Rattle.definition.specs.Requests.{Request, at}
use Rattle.definition.specs.Superclasses.{nearest}
use Rattle.definition.specs.Verifier.{Note, TypeState, VerifierType, type_class, type_int, type_null, type_of_name, types_in, meets, notes_of_method}
use Rattle.laws.specs.Chains.{chain_more}
use Rattle.laws.specs.Options.{each_more}
use Rattle.safety.specs.Conform.{Fits, Tied, grows-fits}
use Rattle.laws.specs.Growth.{Grows}
use Rattle.laws.specs.Objects.{Numbered}
use Rattle.laws.specs.Stable.{Rooted}
use Rattle.definition.specs.Lists.{Each}

pub record Holds (w : World) (os : Objects) (l n o : ℕ) : Type 0 where
  pub object : Object
  pub there : existing os o ≡ some object
  pub fits : Fits w object.class (at l n)

-- a value of a type under a loader
abbrev pub Conforms : World → Objects → ℕ → VerifierType → Value → Type 0
Conforms w os l type_int empty_value = ⊥
Conforms w os l type_int (unlisted_value α β) = ⊥
Conforms w os l type_int (int_value n) = Unit {0}
Conforms w os l type_int null_value = ⊥
Conforms w os l type_int (object_value o) = ⊥
Conforms w os l type_null empty_value = ⊥
Conforms w os l type_null (unlisted_value α β) = ⊥
Conforms w os l type_null (int_value n) = ⊥
Conforms w os l type_null null_value = Unit {0}
Conforms w os l type_null (object_value o) = ⊥
Conforms w os l (type_class n) empty_value = ⊥
Conforms w os l (type_class n) (unlisted_value α β) = ⊥
Conforms w os l (type_class n) (int_value m) = ⊥
Conforms w os l (type_class n) null_value = Unit {0}
Conforms w os l (type_class n) (object_value o) = Holds w os l n o

-- a value that is a reference refers to an object
abbrev pub Exists : Objects → Value → Type 0
Exists os empty_value = Unit {0}
Exists os (unlisted_value α β) = Unit {0}
Exists os (int_value n) = Unit {0}
Exists os null_value = Unit {0}
Exists os (object_value o) = (b : Object) × (existing os o ≡ some b)

-- an unset local holds whatever was left there
abbrev pub Local : World → Objects → ℕ → Option VerifierType → Value → Type 0
Local w os l none v = Exists os v
Local w os l (some t) v = Conforms w os l t v

-- every note of the list is a constraint of loader l
abbrev pub Noted : World → ℕ → List Note → Type 0
Noted w l ns = (n : Note) → Memᴰ n ns → Memᴰ (record { from = at l n.low; to = at l n.high }) (subtype_edges w.subtypes)

-- Type a flows into type b: it is b, or meets the name that b stands for under notes that are posted. A local may become unset.

pub record Met (w : World) (l : ℕ) (a b : VerifierType) : Type 0 where
  pub name : ℕ
  pub notes : List Note
  pub is : type_of_name name ≡ b
  pub does : meets a name ≡ some notes
  pub posted : Noted w l notes

abbrev pub Flows : World → ℕ → VerifierType → VerifierType → Type 0
Flows w l a b = (a ≡ b) ⊎ Met w l a b

abbrev pub FlowsLocal : World → ℕ → Option VerifierType → Option VerifierType → Type 0
FlowsLocal w l none none = Unit {0}
FlowsLocal w l (some a) none = Unit {0}
FlowsLocal w l none (some b) = ⊥
FlowsLocal w l (some a) (some b) = Flows w l a b

pub record ObjectSound (w : World) (os : Objects) (b : Object) : Type 0 where
  pub the_class : Class
  pub is_class : get_elem? w.base.classes b.class ≡ some the_class
  pub filled : Each (λ s v. Conforms w os (loader_of w.base s.owner) (type_of_name s.type) v) (slots w.base b.class) b.values

pub record Verified (w : World) (k : Class) (m : Method) : Type 0 where
  pub notes : List Note
  pub passes : notes_of_method k m ≡ some notes
  pub posted : Noted w k.loader notes

-- what holds of classes, cache and constraints
pub record Linked (w : World) : Type 0 where
  pub agreed : Agrees w
  pub own : (c : ℕ) (k : Class) → get_elem? w.base.classes c ≡ some k → find w.base.cache (at k.loader k.name) ≡ some c
  pub real : (r : Request) (c : ℕ) → find w.base.cache r ≡ some c → (k : Class) × (get_elem? w.base.classes c ≡ some k)
  pub supers : (c : ℕ) (k : Class) → get_elem? w.base.classes c ≡ some k → 0 < c → (p : ℕ) × (super_of w.base c ≡ some p)
  pub verified : (c j : ℕ) (k : Class) (m : Method) → get_elem? w.base.classes c ≡ some k → get_elem? k.methods j ≡ some m → Verified w k m
  pub over : (s : Signature) (x p y t : ℕ) → has_method w.base s x ≡ true → super_of w.base x ≡ some p → nearest (super_of w.base) (has_method w.base s) p ≡ some y
      → Memᴰ t (signature_types s) → t ≢ 1 → Tied w (at (loader_of w.base x) t) (at (loader_of w.base y) t)

pub rooted : {w : World} → Linked w → Rooted w.base
rooted lk = record { real = lk.real; supers = lk.supers }

abbrev pub Heap : World → Objects → Type 0
Heap w os = (o : ℕ) (b : Object) → existing os o ≡ some b → ObjectSound w os b

-- a frame at a point with types τ
pub record Typed (w : World) (f : Frame) (k : Class) (m : Method) (τ : TypeState) : Type 0 where
  pub is_class : get_elem? w.base.classes f.class ≡ some k
  pub is_method : get_elem? k.methods f.method ≡ some m
  pub types : types_in k m f.point ≡ some τ

-- the frame on top, and a frame that waits for a result of type r, which flows into the type on top of its point's operands
pub record Top (w : World) (os : Objects) (f : Frame) (k : Class) (m : Method) : Type 0 where
  pub τ : TypeState
  pub typed : Typed w f k m τ
  pub operands : Each (Conforms w os k.loader) τ.operands f.operands
  pub locals : Each (Local w os k.loader) τ.locals f.locals

pub record Waits (w : World) (os : Objects) (f : Frame) (k : Class) (m : Method) (r : ℕ) : Type 0 where
  pub τ : TypeState
  pub top : VerifierType
  pub others : List VerifierType
  pub typed : Typed w f k m τ
  pub split : τ.operands ≡ top ∷ others
  pub takes : Flows w k.loader (type_of_name r) top
  pub operands : Each (Conforms w os k.loader) others f.operands
  pub locals : Each (Local w os k.loader) τ.locals f.locals

-- the frames under one of loader l and result r
abbrev pub Under : World → Objects → ℕ → ℕ → List Frame → Type 0
Under w os l r [] = r ≡ 1
Under w os l r (g ∷ gs) = (k : Class) × (m : Method) × Waits w os g k m r × (r ≢ 1 → Tied w (at l r) (at k.loader r)) × Under w os k.loader m.signature.result gs

abbrev pub Stack : World → Objects → List Frame → Type 0
Stack w os [] = Unit {0}
Stack w os (f ∷ fs) = (k : Class) × (m : Method) × Top w os f k m × Under w os k.loader m.signature.result fs

-- Later stores

pub record Later (v : World) (os : Objects) (w : World) (qs : Objects) : Type 0 where
  pub grows : Grows v w
  pub objects : Numbered os qs

module _ {v w : World} {os qs : Objects} (z : Later v os w qs) where
  pub later-conforms : (l : ℕ) (t : VerifierType) (x : Value) → Conforms v os l t x → Conforms w qs l t x
  later-conforms l type_int empty_value h = h
  later-conforms l type_int (unlisted_value α β) h = h
  later-conforms l type_int (int_value n) h = h
  later-conforms l type_int null_value h = h
  later-conforms l type_int (object_value o) h = h
  later-conforms l type_null empty_value h = h
  later-conforms l type_null (unlisted_value α β) h = h
  later-conforms l type_null (int_value n) h = h
  later-conforms l type_null null_value h = h
  later-conforms l type_null (object_value o) h = h
  later-conforms l (type_class n) empty_value h = h
  later-conforms l (type_class n) (unlisted_value α β) h = h
  later-conforms l (type_class n) (int_value m) h = h
  later-conforms l (type_class n) null_value h = h
  later-conforms l (type_class n) (object_value o) h = let d = z.objects o h.object h.there in record { object = d.0; there = d.1; fits = rw d.2 (grows-fits z.grows h.fits) }

  later-exists : (x : Value) → Exists os x → Exists qs x
  later-exists empty_value h = h
  later-exists (unlisted_value α β) h = h
  later-exists (int_value n) h = h
  later-exists null_value h = h
  later-exists (object_value o) h = let d = z.objects o h.0 h.1 in (d.0, d.1)

  pub later-local : (l : ℕ) (t : Option VerifierType) (x : Value) → Local v os l t x → Local w qs l t x
  later-local l none x h = later-exists x h
  later-local l (some t) x h = later-conforms l t x h

  pub later-ops : (l : ℕ) (ts : List VerifierType) (xs : List Value) → Each (Conforms v os l) ts xs → Each (Conforms w qs l) ts xs
  later-ops l ts xs h = each_more (later-conforms l) ts xs h

  pub later-typed : {f : Frame} {k : Class} {m : Method} {τ : TypeState} → Typed v f k m τ → Typed w f k m τ
  later-typed {f} {k} t = record { is_class = z.grows.classes f.class k t.is_class; is_method = t.is_method; types = t.types }

  pub later-top : {f : Frame} {k : Class} {m : Method} → Top v os f k m → Top w qs f k m
  later-top {f} {k} t = record { τ = t.τ; typed = later-typed t.typed; operands = later-ops k.loader t.τ.operands f.operands t.operands; locals = each_more (later-local k.loader) t.τ.locals f.locals t.locals }

  pub later-flows : (l : ℕ) (a b : VerifierType) → Flows v l a b → Flows w l a b
  later-flows l a b (inl e) = inl e
  later-flows l a b (inr m) = inr (record { name = m.name; notes = m.notes; is = m.is; does = m.does; posted = λ n i. z.grows.subtypes _ (m.posted n i) })

  pub later-waits : {f : Frame} {k : Class} {m : Method} {r : ℕ} → Waits v os f k m r → Waits w qs f k m r
  later-waits {f} {k} {m} {r} t = record { τ = t.τ; top = t.top; others = t.others; typed = later-typed t.typed; split = t.split; takes = later-flows k.loader (type_of_name r) t.top t.takes; operands = later-ops k.loader t.others f.operands t.operands; locals = each_more (later-local k.loader) t.τ.locals f.locals t.locals }

  pub later-under : (l r : ℕ) (gs : List Frame) → Under v os l r gs → Under w qs l r gs
  later-under l r [] h = h
  later-under l r (g ∷ gs) (k, m, a, t, u) = (k, m, later-waits a, λ n. chain_more z.grows.ties (t n), later-under k.loader m.signature.result gs u)

  pub later-stack : (fs : List Frame) → Stack v os fs → Stack w qs fs
  later-stack [] h = h
  later-stack (f ∷ fs) (k, m, t, u) = (k, m, later-top t, later-under k.loader m.signature.result fs u)
