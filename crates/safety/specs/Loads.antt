-- Loading keeps the invariant.
use Rattle.std.specs.Prelude.{◌≡◌, refl, Bool, true, false, ◌&&◌, ◌⊎◌, ◌≢◌, ℕ, zero, suc, ◌<◌, length, eqb}
use Rattle.std.proofs.Common.{sym, ◌∙◌, eqb-true}
use Rattle.std.proofs.Math.Path.{ap}
use Rattle.std.proofs.Math.Option.{none, some, none-ne-some, some-injective}
use mathlib.Core.List.Memᴰ
use mathlib.Core.List.{List, [], ◌∷◌, ◌++◌, append_assoc, Memᴰ}
use Rattle.std.proofs.Math.Logic.{inl, inr}
use Rattle.std.proofs.Math.ListN.{get_elem?}
use Rattle.definition.specs.declared.Signature.{Signature}
use Rattle.definition.specs.Classes.{Base, Class, Entry, Method, alike, find, has_method, loader_of, super_of, signature_types}
use Rattle.definition.specs.Constraints.{Agrees, Subtype, Tie, World, subtype_edges, tie_edges, signature_ties}
use Rattle.definition.specs.Lists.{any}
use Rattle.definition.specs.Loading.{new_subtypes, override_tie, override_ties, subtype_is, subtype_of, with_class, with_entry}
use Rattle.definition.specs.Chains.{Chain}
use Rattle.definition.specs.Requests.{Request, at}
use Rattle.definition.specs.Superclasses.{nearest}
use Rattle.definition.specs.Verifier.{Note, notes_of, notes_of_method}
use Rattle.definition.specs.declared.Instruction.TheVariants.{New}
use Rattle.laws.specs.Agreement.{find-more, is-super, super-falls}
use Rattle.laws.specs.Chains.{chain_more}
use Rattle.laws.specs.Options.{bind-some, nth_last, nth-snoc}
use Rattle.laws.specs.Tests.{and-true, any-true}
use Rattle.laws.specs.Upward.{nearest-below}
use Rattle.safety.specs.Conform.{Tied}
use Rattle.safety.specs.Valid.{Linked, Verified, rooted}
use Rattle.safety.specs.Places.{ties-there}
use Rattle.definition.specs.Maybe as Maybe
use Rattle.laws.specs.Growth.{Grows, grows-super, sub-edges-more, tie-edges-more, grows-class, grows-entry, nth-lt}
use Rattle.laws.specs.Stable.{find-last, find-snoc, has-class, has-is, has-stable, loader-is, loader-stable, nearest-stable, real-super, super-stable}
use Rattle.laws.specs.Members.{nearest-selected, alike_is}

-- The constraints that a definition adds

abbrev SubThere : List Subtype → ℕ → Note → Type 0
SubThere ss l n = Memᴰ (record { from = at l n.low; to = at l n.high }) (subtype_edges ss)

sub-edge : (ss : List Subtype) (l : ℕ) (n : Note) → Memᴰ (subtype_of l n) ss → SubThere ss l n
unfolding subtype_edges
sub-edge [] l n never = elim never [ ]
sub-edge (s ∷ ss) l n (Memᴰ.head e) = Memᴰ.head (ap (λ (z : Subtype). record { from = at z.loader z.low; to = at z.loader z.high }) e)
sub-edge (s ∷ ss) l n (Memᴰ.tail m) = Memᴰ.tail (sub-edge ss l n m)

sub_is : (ss : List Subtype) (l : ℕ) (n : Note) (s : Subtype) → Memᴰ s ss → subtype_is l n s ≡ true → SubThere ss l n
unfolding subtype_is
sub_is ss l n s m h =
    let a = and-true (eqb s.loader l && eqb s.low n.low) (eqb s.high n.high) h in
    let b = and-true (eqb s.loader l) (eqb s.low n.low) a.0 in
    sub-edge ss l n (rw (sym (eqb-true s.loader l b.0), sym (eqb-true s.low n.low b.1), sym (eqb-true s.high n.high a.1)) m)

subs-wider : (ss rs : List Subtype) (l : ℕ) (n : Note) → SubThere ss l n → SubThere (ss ++ rs) l n
subs-wider ss rs l n m = rw (sub-edges-more ss rs) (Memᴰ.append_left (subtype_edges rs) m)

subs-there : (ss : List Subtype) (l : ℕ) (ns : List Note) (n : Note) → Memᴰ n ns → SubThere (ss ++ new_subtypes ss l ns) l n
unfolding new_subtypes
subs-there ss l [] n never = elim never [ ]
subs-there ss l (x ∷ ns) n m = go (any (subtype_is l x) ss) refl m (λ rs k. subs-there rs l ns n k)
  where
    New : Bool → List Subtype
    New t = elim t as (λ _. List Subtype) [ true ↦ new_subtypes ss l ns | false ↦ subtype_of l x ∷ new_subtypes (ss ++ (subtype_of l x ∷ [])) l ns ]

    go : (t : Bool) → any (subtype_is l x) ss ≡ t → Memᴰ n (x ∷ ns) → ((rs : List Subtype) → Memᴰ n ns → SubThere (rs ++ new_subtypes rs l ns) l n) → SubThere (ss ++ New t) l n
    go true e (Memᴰ.head q) f = let a = any-true (subtype_is l x) ss e in rw q (subs-wider ss (new_subtypes ss l ns) l x (sub_is ss l x a.0 a.1 a.2))
    go true e (Memᴰ.tail k) f = f ss k
    go false e (Memᴰ.head q) f = rw q (sub-edge _ l x (Memᴰ.append_right ss (Memᴰ.head refl)))
    go false e (Memᴰ.tail k) f = rw append_assoc at (f (ss ++ (subtype_of l x ∷ [])) k)

-- each type of the method's signature is tied between l and the loader of the nearest class, p or one upward, with a method alike
abbrev OverThere : Base → ℕ → ℕ → List Tie → Method → Type 0
OverThere b l p ts m = (y t : ℕ) → nearest (super_of b) (has_method b m.signature) p ≡ some y → Memᴰ t (signature_types m.signature) → t ≢ 1 → Chain (tie_edges ts) (at l t) (at (loader_of b y) t)

over-one : (b : Base) (l p : ℕ) (ts : List Tie) (m : Method) → OverThere b l p (ts ++ override_tie b l p ts m.signature) m
unfolding override_tie signature_ties
over-one b l p ts m y t h i z = rw ((nearest-selected b m.signature p y h).1, override_tie) (ties-there ts l (loader_of b y) (signature_types m.signature) t i z)

over-wider : (b : Base) (l p : ℕ) (ts us : List Tie) (m : Method) → OverThere b l p ts m → OverThere b l p (ts ++ us) m
over-wider b l p ts us m o y t h i z = rw (tie-edges-more ts us) (chain_more (λ e i. Memᴰ.append_left (tie_edges us) i) (o y t h i z))

over-there : (b : Base) (l p : ℕ) (ts : List Tie) (ms : List Method) (m : Method) → Memᴰ m ms → OverThere b l p (ts ++ override_ties b l p ts ms) m
unfolding override_ties
over-there b l p ts [] m never = elim never [ ]
over-there b l p ts (x ∷ ms) m (Memᴰ.head q) = rw q (rw append_assoc at (over-wider b l p (ts ++ override_tie b l p ts x.signature) (override_ties b l p (ts ++ override_tie b l p ts x.signature) ms) x (over-one b l p ts x)))
over-there b l p ts (x ∷ ms) m (Memᴰ.tail k) = rw append_assoc at (over-there b l p (ts ++ override_tie b l p ts x.signature) ms m k)

-- each method's notes are among a class's
notes-at : (k : Class) (ms : List Method) (ns : List Note) → notes_of k ms ≡ some ns → (j : ℕ) (m : Method) → get_elem? ms j ≡ some m
    → (xs : List Note) × (notes_of_method k m ≡ some xs) × ((n : Note) → Memᴰ n xs → Memᴰ n ns)
unfolding notes_of
notes-at k [] ns h j m e = absurd (none-ne-some m e)
notes-at k (x ∷ ms) ns h zero m e =
    let a = bind-some _ _ h in
    let b = bind-some _ _ a.2 in
    let q = some-injective x m e in
    let z : (a.0 ++ b.0) ≡ ns = some-injective _ _ b.2 in
    (a.0, ap (notes_of_method k) (sym q) ∙ a.1, λ n i. rw z at (Memᴰ.append_left b.0 i))
notes-at k (x ∷ ms) ns h (suc j) m e =
    let a = bind-some _ _ h in
    let b = bind-some _ _ a.2 in
    let r = notes-at k ms b.0 b.1 j m e in
    let z : (a.0 ++ b.0) ≡ ns = some-injective _ _ b.2 in
    (r.0, r.1, λ n i. rw z at (Memᴰ.append_right a.0 (r.2 n i)))

-- A later world, and what was tied in the earlier one

module _ (v w : World) (lk : Linked v) (gr : Grows v w) where
  over-old : (g : Signature) (x p y t : ℕ) → (k : Class) × (get_elem? v.base.classes x ≡ some k)
      → has_method w.base g x ≡ true → super_of w.base x ≡ some p → nearest (super_of w.base) (has_method w.base g) p ≡ some y
      → Memᴰ t (signature_types g) → t ≢ 1 → Tied w (at (loader_of w.base x) t) (at (loader_of w.base y) t)
  over-old g x p y t rx h s q i z =
      let h' = sym (has-stable v w (rooted lk) gr g x rx) ∙ h in
      let s' = sym (super-stable v w (rooted lk) gr x rx) ∙ s in
      let q' = sym (nearest-stable v w (rooted lk) gr g p (real-super v w (rooted lk) gr x p s')) ∙ q in
      let ry = has-class v.base g y (nearest-below (super_of v.base) (super-falls v.base) (has_method v.base g) p y q').1 in
      rw (loader-stable v w (rooted lk) gr x rx, loader-stable v w (rooted lk) gr y ry) (chain_more gr.ties (lk.over g x p y t h' s' q' i z))

  verified-old : (k : Class) (m : Method) → Verified v k m → Verified w k m
  verified-old k m x = record { notes = x.notes; passes = x.passes; posted = λ n i. gr.subtypes _ (x.posted n i) }

-- a cache entry more

pub linked-entry : (v : World) (r : Request) (c : ℕ) (k : Class) → Linked v → get_elem? v.base.classes c ≡ some k → Agrees (with_entry v r c) → Linked (with_entry v r c)
linked-entry v r c k lk ck g = record {
  agreed = g;
  own = λ x y h. find-more v.base.cache _ _ x (lk.own x y h);
  real = λ q d h. elim (find-snoc v.base.cache (record { request = r; class = c }) q d h) [ inl x ↦ lk.real q d x | inr x ↦ (k, ap (get_elem? v.base.classes) x ∙ ck) ];
  supers = λ x y h l. let s = lk.supers x y h l in (s.0, grows-super gr x s.0 s.1);
  verified = λ x j y m a b. verified-old v w lk gr y m (lk.verified x j y m a b);
  over = λ g x p y t h. over-old v w lk gr g x p y t (has-class w.base g x h) h;
}
  where
    w : World
    w = with_entry v r c

    gr : Grows v w
    gr = grows-entry v r c

-- a class more

module _ (v : World) (k : Class) (ns : List Note) (p : ℕ) (lk : Linked v) (vn : notes_of k k.methods ≡ some ns)
    (fr : find v.base.cache (at k.loader k.name) ≡ none) (fp : find v.base.cache (at k.loader k.super) ≡ some p) where
  unfoldable pub us : List Tie
  us = override_ties v.base k.loader p v.ties k.methods

  unfoldable pub ss : List Subtype
  ss = new_subtypes v.subtypes k.loader ns

  pub linked-class : Agrees (with_class v k us ss) → Linked (with_class v k us ss)
  unfolding us ss
  linked-class g = record {
    agreed = g;
    own = λ c x h. own' c x (nth-snoc v.base.classes k c x h);
    real = λ q d h. elim (find-snoc v.base.cache new q d h) [ inl x ↦ let r = lk.real q d x in (r.0, gr.classes d r.0 r.1) | inr x ↦ (k, ap (get_elem? (v.base.classes ++ (k ∷ []))) x ∙ here) ];
    supers = λ c x h l. supers' c x (nth-snoc v.base.classes k c x h) l;
    verified = λ c j x m h e. verified' c j x m (nth-snoc v.base.classes k c x h) e;
    over = λ g x q y t h. over' g x q y t (let c = has-class W.base g x h in nth-snoc v.base.classes k x c.0 c.1) h;
  }
    where
      W : World
      W = with_class v k us ss

      gr : Grows v W
      gr = grows-class v k us ss

      N : ℕ
      N = length v.base.classes

      new : Entry
      new = record { request = at k.loader k.name; class = N }

      here : get_elem? (v.base.classes ++ (k ∷ [])) N ≡ some k
      here = nth_last v.base.classes k

      up : super_of W.base N ≡ some p
      up = is-super W.base N p (record { the_class = k; is_class = here; cached = find-more v.base.cache _ _ p fp; less = let r = lk.real _ p fp in nth-lt v.base.classes p r.0 r.1 })

      own' : (c : ℕ) (x : Class) → (get_elem? v.base.classes c ≡ some x) ⊎ ((c ≡ N) × (x ≡ k)) → find (v.base.cache ++ (new ∷ [])) (at x.loader x.name) ≡ some c
      own' c x (inl h) = find-more v.base.cache _ _ c (lk.own c x h)
      own' c x (inr h) = rw (h.0, h.1) (find-last v.base.cache new fr)

      supers' : (c : ℕ) (x : Class) → (get_elem? v.base.classes c ≡ some x) ⊎ ((c ≡ N) × (x ≡ k)) → 0 < c → (q : ℕ) × (super_of W.base c ≡ some q)
      supers' c x (inl h) l = let s = lk.supers c x h l in (s.0, grows-super gr c s.0 s.1)
      supers' c x (inr h) l = (p, rw h.0 up)

      verified' : (c j : ℕ) (x : Class) (m : Method) → (get_elem? v.base.classes c ≡ some x) ⊎ ((c ≡ N) × (x ≡ k)) → get_elem? x.methods j ≡ some m → Verified W x m
      verified' c j x m (inl h) e = verified-old v W lk gr x m (lk.verified c j x m h e)
      verified' c j x m (inr h) e =
          let r = notes-at k k.methods ns vn j m (rw h.1 at e) in
          rw h.1 (record { notes = r.0; passes = r.1; posted = λ n i. subs-there v.subtypes k.loader ns n (r.2 n i) })

      fresh' : (g : Signature) (y t : ℕ) → has_method W.base g N ≡ true → nearest (super_of W.base) (has_method W.base g) p ≡ some y
          → Memᴰ t (signature_types g) → t ≢ 1 → Tied W (at (loader_of W.base N) t) (at (loader_of W.base y) t)
      fresh' g y t h f i z =
          let f' = sym (nearest-stable v W (rooted lk) gr g p (lk.real _ p fp)) ∙ f in
          let ry = has-class v.base g y (nearest-below (super_of v.base) (super-falls v.base) (has_method v.base g) p y f').1 in
          let am = any-true (alike g) k.methods (sym (has-is W.base g N k here) ∙ h) in
          let e = alike_is g am.0 am.2 in
          rw (loader-is W.base N k here, loader-stable v W (rooted lk) gr y ry) (over-there v.base k.loader p v.ties k.methods am.0 am.1 y t (rw e f') (rw e i) z)

      over' : (g : Signature) (x q y t : ℕ) {c : Class} → (get_elem? v.base.classes x ≡ some c) ⊎ ((x ≡ N) × (c ≡ k))
          → has_method W.base g x ≡ true → super_of W.base x ≡ some q → nearest (super_of W.base) (has_method W.base g) q ≡ some y
          → Memᴰ t (signature_types g) → t ≢ 1 → Tied W (at (loader_of W.base x) t) (at (loader_of W.base y) t)
      over' g x q y t {c} (inl e) h s f i n = over-old v W lk gr g x q y t (c, e) h s f i n
      over' g x q y t {c} (inr e) h s f i n =
          let z : q ≡ p = some-injective q p (sym s ∙ ap (super_of W.base) e.0 ∙ up) in
          rw e.0 (fresh' g y t (rw e.0 at h) (rw z at f) i n)
