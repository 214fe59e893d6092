-- A store that has all that an earlier one has: what a load leaves.
use Rattle.std.specs.Prelude.{◌≡◌, refl, ℕ, zero, suc, ◌<◌, length}
use Rattle.std.proofs.Math.Option.{some, none-ne-some}
use mathlib.Core.List.Memᴰ
use mathlib.Core.List.{List, [], ◌∷◌, ◌++◌, Memᴰ}
use Rattle.std.proofs.Common.{inl, inr, arith}
use Rattle.std.proofs.Math.ListN.{get_elem?}
use Rattle.definition.specs.Classes.{Class, find, super_of}
use Rattle.definition.specs.Constraints.{Subtype, Tie, World, edges, subtype_edges, tie_edges}
use Rattle.definition.specs.Chains.{Edge}
use Rattle.definition.specs.Requests.{Request, at}
use Rattle.laws.specs.Agreement.{find-more, is-super, nth-more, super-is}
use Rattle.definition.specs.Loading.{with_class, with_entry}

-- The later world has all that the earlier has
pub record Grows (v w : World) : Type 0 where
  pub classes : (c : ℕ) (k : Class) → get_elem? v.base.classes c ≡ some k → get_elem? w.base.classes c ≡ some k
  pub cache : (r : Request) (c : ℕ) → find v.base.cache r ≡ some c → find w.base.cache r ≡ some c
  pub ties : (e : Edge Request) → Memᴰ e (tie_edges v.ties) → Memᴰ e (tie_edges w.ties)
  pub subtypes : (e : Edge Request) → Memᴰ e (subtype_edges v.subtypes) → Memᴰ e (subtype_edges w.subtypes)

pub grows-super : {v w : World} → Grows v w → (c p : ℕ) → super_of v.base c ≡ some p → super_of w.base c ≡ some p
grows-super {v} {w} g c p h = let s = super-is v.base c p h in
    is-super w.base c p (record { the_class = s.the_class; is_class = g.classes c s.the_class s.is_class; cached = g.cache (at s.the_class.loader s.the_class.super) p s.cached; less = s.less })

pub grows-edges : {v w : World} → Grows v w → (e : Edge Request) → Memᴰ e (edges v) → Memᴰ e (edges w)
unfolding edges
grows-edges {v} {w} g e m = elim (Memᴰ.append_cases (tie_edges v.ties) m)
    [ inl p ↦ Memᴰ.append_left (subtype_edges w.subtypes) (g.ties e p) | inr p ↦ Memᴰ.append_right (tie_edges w.ties) (g.subtypes e p) ]

pub grows_self : (w : World) → Grows w w
grows_self w = record { classes = λ c k h. h; cache = λ r c h. h; ties = λ e m. m; subtypes = λ e m. m }

pub grows-join : {u v w : World} → Grows u v → Grows v w → Grows u w
grows-join g h = record {
  classes = λ c k p. h.classes c k (g.classes c k p);
  cache = λ r c p. h.cache r c (g.cache r c p);
  ties = λ e m. h.ties e (g.ties e m);
  subtypes = λ e m. h.subtypes e (g.subtypes e m);
}

pub tie-edges-more : (ts us : List Tie) → tie_edges (ts ++ us) ≡ tie_edges ts ++ tie_edges us
unfolding tie_edges
tie-edges-more [] us = refl
tie-edges-more (t ∷ ts) us = rw (tie-edges-more ts us, tie_edges) refl

pub sub-edges-more : (ts us : List Subtype) → subtype_edges (ts ++ us) ≡ subtype_edges ts ++ subtype_edges us
unfolding subtype_edges
sub-edges-more [] us = refl
sub-edges-more (t ∷ ts) us = rw (sub-edges-more ts us, subtype_edges) refl

pub nth-lt : {A : Type 0} (xs : List A) (i : ℕ) (x : A) → get_elem? xs i ≡ some x → i < length xs
nth-lt [] i x h = absurd (none-ne-some x h)
nth-lt (y ∷ xs) zero x h = omega arith
nth-lt (y ∷ xs) (suc i) x h = omega (arith, nth-lt xs i x h)

pub grows-entry : (v : World) (r : Request) (c : ℕ) → Grows v (with_entry v r c)
grows-entry v r c = record { classes = λ x k h. h; cache = λ q x h. find-more v.base.cache _ q x h; ties = λ e m. m; subtypes = λ e m. m }

pub grows-class : (v : World) (k : Class) (us : List Tie) (ss : List Subtype) → Grows v (with_class v k us ss)
grows-class v k us ss = record {
  classes = λ x y h. nth-more v.base.classes (k ∷ []) x y h;
  cache = λ q x h. find-more v.base.cache _ q x h;
  ties = λ e m. rw (tie-edges-more v.ties us) (Memᴰ.append_left (tie_edges us) m);
  subtypes = λ e m. rw (sub-edges-more v.subtypes ss) (Memᴰ.append_left (subtype_edges ss) m);
}
