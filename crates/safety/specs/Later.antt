-- What holds of objects, classes and constraints holds in a later store: ties posted, a field written, an object made, a class or a cache entry added.
use Rattle.std.specs.Prelude.{◌≡◌, refl, Bool, true, false, ◌⊎◌, ℕ, eqb}
use Rattle.std.proofs.Common.{sym, subst, inl, inr}
use Rattle.std.proofs.Math.Option.{Option, none, some}
use mathlib.Core.List.Memᴰ
use mathlib.Core.List.{List, [], ◌∷◌, ◌++◌, map, Memᴰ}
use Rattle.std.proofs.Math.ListN.{get_elem?}
use Rattle.definition.specs.declared.Signature.{Signature}
use Rattle.definition.specs.Classes.{Class, Slot, argument_types, loader_of, slots, super_of, Selected}
use Rattle.definition.specs.Constraints.{Agrees, Tie, World, posted, tie_edges}
use Rattle.definition.specs.Machine.{Object, Progress, Value, entry_frame, empty_value, initial_value, int_value, null_value, object_value, Objects, existing, Exists, made, changed}
use Rattle.definition.specs.Chains.{Edge}
use Rattle.definition.specs.Requests.{Request}
use Rattle.definition.specs.Verifier.{VerifierType, type_class, type_int, type_of_name, entry_types}
use Rattle.laws.specs.Arguments.{each-filled}
use Rattle.laws.specs.Chains.{chain_more}
use Rattle.laws.specs.Options.{each_more, each-more-in}
use Rattle.safety.specs.Flows.{lands, operands-flow, locals-flow}
use Rattle.safety.specs.Valid.{Conforms, Heap, Later, Linked, Local, ObjectSound, Stack, Top, later-conforms}
use Rattle.definition.specs.Maybe as Maybe
use Rattle.laws.specs.Growth.{Grows, grows-join, grows_self, tie-edges-more}
use Rattle.definition.specs.Lists.{Each}
use Rattle.laws.specs.Objects.{made-from, changed-from, numbered-same, numbered-join, numbered-changed, numbered-made}
use Rattle.laws.specs.Stable.{Rooted, loader-stable, slots-stable, slot-real}
use Rattle.definition.specs.Superclasses.{Below}
use Rattle.safety.specs.Conform.{fits-own}
use Rattle.laws.specs.Walk.{entry}
use Rattle.laws.specs.Members.{MethodAt}

pub ties-more : (w : World) (us : List Tie) (e : Edge Request) → Memᴰ e (tie_edges w.ties) → Memᴰ e (tie_edges (w.ties ++ us))
ties-more w us e m = rw (tie-edges-more w.ties us) (Memᴰ.append_left (tie_edges us) m)

pub grows-posted : (w : World) (us : List Tie) → Grows w (posted w us)
grows-posted w us = record { classes = λ c k h. h; cache = λ r c h. h; ties = ties-more w us; subtypes = λ e m. m }

pub record Kept (v : World) (os : Objects) (out : Progress) : Type 0 where
  pub linked : Linked out.world
  pub heap : Heap out.world out.objects
  pub stack : Stack out.world out.objects out.frames
  pub later : Later v os out.world out.objects

pub later_same : (w : World) (os : Objects) → Later w os w os
later_same w os = record { grows = grows_self w; objects = numbered-same os }

pub later-posted : (w : World) (os : Objects) (us : List Tie) → Later w os (posted w us) os
later-posted w os us = record { grows = grows-posted w us; objects = numbered-same os }

pub heap-posted : (w : World) (os : Objects) (us : List Tie) → Heap w os → Heap (posted w us) os
heap-posted w os us h o b e = let x = h o b e in record { the_class = x.the_class; is_class = x.is_class; filled = each_more (λ s v. later-conforms (later-posted w os us) (loader_of w.base s.owner) (type_of_name s.type) v) (slots w.base b.class) b.values x.filled }

pub linked-posted : (w : World) (us : List Tie) → Linked w → Agrees (posted w us) → Linked (posted w us)
linked-posted w us k g = record {
  agreed = g;
  own = k.own;
  real = k.real;
  supers = k.supers;
  verified = λ c j x m a b. let v = k.verified c j x m a b in record { notes = v.notes; passes = v.passes; posted = v.posted };
  over = λ g x p y t h s q i z. chain_more (ties-more w us) (k.over g x p y t h s q i z);
}

pub later-changed : (w : World) (os : Objects) (o : ℕ) (b : Object) (vs : List Value) → existing os o ≡ some b → Later w os w (changed os o (record { class = b.class; values = vs }))
later-changed w os o b vs h = record { grows = grows_self w; objects = numbered-changed os o b (record { class = b.class; values = vs }) h refl }

pub later-join : {u v w : World} {os ps qs : Objects} → Later u os v ps → Later v ps w qs → Later u os w qs
later-join {os} {ps} {qs} y z = record { grows = grows-join y.grows z.grows; objects = numbered-join os ps qs y.objects z.objects }

pub object-later : {w : World} {os qs : Objects} → Later w os w qs → (b : Object) → ObjectSound w os b → ObjectSound w qs b
object-later {w} z b x = record {
  the_class = x.the_class;
  is_class = x.is_class;
  filled = each_more (λ s u. later-conforms z (loader_of w.base s.owner) (type_of_name s.type) u) (slots w.base b.class) b.values x.filled;
}

pub heap-changed : (w : World) (os : Objects) (o : ℕ) (b : Object) (vs : List Value) → existing os o ≡ some b → Heap w os
    → Each (λ s v. Conforms w os (loader_of w.base s.owner) (type_of_name s.type) v) (slots w.base b.class) vs → Heap w (changed os o (record { class = b.class; values = vs }))
heap-changed w os o b vs h hp ea x y e = go (changed-from os o (record { class = b.class; values = vs }) x y e)
  where
    z : Later w os w (changed os o (record { class = b.class; values = vs }))
    z = later-changed w os o b vs h

    go : (existing os x ≡ some y) ⊎ ((x ≡ o) × (record { class = b.class; values = vs } ≡ y) × Exists os o) → ObjectSound w (changed os o (record { class = b.class; values = vs })) y
    go (inl q) = object-later z y (hp x y q)
    go (inr q) = subst (λ (u : Object). ObjectSound w (changed os o (record { class = b.class; values = vs })) u) q.1
        (object-later z (record { class = b.class; values = vs }) (record { the_class = (hp o b h).the_class; is_class = (hp o b h).is_class; filled = ea }))

-- one object more
pub later-made : (w : World) (k : ℕ) (b : Object) (os : Objects) → Later w os w (made k b os)
later-made w k b os = record { grows = grows_self w; objects = numbered-made k b os }

pub heap-made : (w : World) (k : ℕ) (b : Object) (os : Objects) → Heap w os → ObjectSound w os b → Heap w (made k b os)
heap-made w k b os hp ob x y e = elim (made-from k b os x y e)
    [ inl q ↦ object-later (later-made w k b os) y (hp x y q) | inr q ↦ object-later (later-made w k b os) y (rw q.1 at ob) ]

-- a new object holds zeros and nulls
pub zeros-conform : (w : World) (os : Objects) (ss : List Slot) → Each (λ s v. Conforms w os (loader_of w.base s.owner) (type_of_name s.type) v) ss (map initial_value ss)
unfolding initial_value type_of_name
zeros-conform w os [] = tt
zeros-conform w os (s ∷ ss) = (go (eqb s.type 1), zeros-conform w os ss)
  where
    go : (t : Bool) → Conforms w os (loader_of w.base s.owner) (elim t as (λ _. VerifierType) [ true ↦ type_int | false ↦ type_class s.type ]) (elim t as (λ _. Value) [ true ↦ int_value 0 | false ↦ null_value ])
    go true = tt
    go false = tt

pub heap-grows : (v w : World) → Rooted v.base → Grows v w → (os : Objects) → Heap v os → Later v os w os → Heap w os
unfolding slots
heap-grows v w lk gr os hp z o b e =
    let x = hp o b e in
    let q : (k : Class) × (get_elem? v.base.classes b.class ≡ some k) = (x.the_class, x.is_class) in
    record {
      the_class = x.the_class;
      is_class = gr.classes b.class x.the_class x.is_class;
      filled = rw (slots-stable v w lk gr b.class q) (each-more-in (slots v.base b.class) b.values
          (λ s u m h. rw (loader-stable v w lk gr s.owner (slot-real v w lk gr b.class b.class q s m)) (later-conforms z (loader_of v.base s.owner) (type_of_name s.type) u h)) x.filled);
    }

-- the types of a list of names, held by a list of values
abbrev pub ConformAll : World → Objects → ℕ → List ℕ → List Value → Type 0
ConformAll w os l ts vs = Each (λ t v. Conforms w os l (type_of_name t) v) ts vs

locals-named : (w : World) (os : Objects) (l : ℕ) (ts : List ℕ) (vs : List Value) → ConformAll w os l ts vs → Each (Local w os l) (map (λ n. some (type_of_name n)) ts) vs
locals-named w os l [] [] h = tt
locals-named w os l [] (v ∷ vs) h = h
locals-named w os l (t ∷ ts) [] h = h
locals-named w os l (t ∷ ts) (v ∷ vs) h = (h.0, locals-named w os l ts vs h.1)

-- a frame that enters a method: its object, of the method's class or below, and its arguments
pub entered-top : (w : World) (os : Objects) → Linked w → (s : Signature) (m : Selected) (ma : MethodAt w.base s m) (o : ℕ) (b : Object) → existing os o ≡ some b → Below (super_of w.base) b.class m.class
    → (vs : List Value) → ConformAll w os (loader_of w.base m.class) (argument_types s) vs → Top w os (entry_frame m.class m.place o vs) ma.the_class ma.method
entered-top w os lk s m ma o b th bl vs cv =
    let ve = lk.verified m.class m.place ma.the_class ma.method ma.is_class ma.is_method in
    let to = lands w ma.the_class ma.method ve 0 (entry_types ma.the_class ma.method) (entry ma.the_class ma.method ve.notes ve.passes) in
    let f = entry_frame m.class m.place o vs in
    let ls : List (Option VerifierType) = (entry_types ma.the_class ma.method).locals in
    let cs : ConformAll w os ma.the_class.loader (argument_types ma.method.signature) vs = rw (ma.is_signature, sym ma.loader) cv in
    let held : Each (Local w os ma.the_class.loader) ls f.locals
    = each-filled (Local w os ma.the_class.loader) 8 none empty_value (some (type_class ma.the_class.name) ∷ map (λ n. some (type_of_name n)) (argument_types ma.method.signature)) (object_value o ∷ vs) tt
    (record { object = b; there = th; fits = fits-own (lk.own m.class ma.the_class ma.is_class) bl }, locals-named w os ma.the_class.loader (argument_types ma.method.signature) vs cs) in
    record {
      τ = to.τ;
      typed = record { is_class = ma.is_class; is_method = ma.is_method; types = to.types };
      operands = operands-flow w os ma.the_class.loader [] to.τ.operands [] to.reaches.operands tt;
      locals = locals-flow w os ma.the_class.loader ls to.τ.locals f.locals to.reaches.locals held;
    }
