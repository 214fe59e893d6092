-- Conformance of a class to a request, and what keeps it.
use Rattle.std.specs.Prelude.{◌≡◌, refl, Bool, true, false, ℕ}
use Rattle.std.proofs.Common.{sym, ap, ◌∙◌}
use Rattle.std.proofs.Math.Option.{Option, some, some-injective}
use mathlib.Core.List.Memᴰ
use mathlib.Core.List.{List, [], ◌∷◌, Memᴰ}
use Rattle.definition.specs.Classes.{find, super_of}
use Rattle.definition.specs.Constraints.{Agrees, Tie, World, edges, subtype_edges, tie_edges}
use Rattle.definition.specs.Chains.{Chain, Edge, stay}
use Rattle.definition.specs.Requests.{Request, at}
use Rattle.definition.specs.Superclasses.{Below, nearest, same, up}
use Rattle.laws.specs.Agreement.{super-falls}
use Rattle.laws.specs.Chains.{chain-join, chain_more, chain-turn, turned}
use Rattle.laws.specs.Upward.{below_more, below-trans, nearest-below, nearest-finds, nearest-here, nearest-up}
use Rattle.laws.specs.Growth.{Grows, grows-edges, grows-super}

-- A class of number c may stand where a request r is demanded: c is below a class cached under a request that leads to r
pub record Fits (w : World) (c : ℕ) (r : Request) : Type 0 where
  pub via : Request
  pub class : ℕ
  pub cached : find w.base.cache via ≡ some class
  pub under : Below (super_of w.base) c class
  pub leads : Chain (edges w) via r

-- Lemma 12 of the loading paper
pub fits_below : {w : World} {c d : ℕ} {r : Request} → Agrees w → Fits w c r → find w.base.cache r ≡ some d → Below (super_of w.base) c d
fits_below g f h = below-trans f.under (g.led f.cached h f.leads)

pub fits-own : {w : World} {c d : ℕ} {r : Request} → find w.base.cache r ≡ some d → Below (super_of w.base) c d → Fits w c r
fits-own {w} {c} {d} {r} h b = record { via = r; class = d; cached = h; under = b; leads = stay refl }

pub fits_on : {w : World} {c : ℕ} {r s : Request} → Fits w c r → Chain (edges w) r s → Fits w c s
fits_on f k = record { via = f.via; class = f.class; cached = f.cached; under = f.under; leads = chain-join f.leads k }

pub grows-fits : {v w : World} {c : ℕ} {r : Request} → Grows v w → Fits v c r → Fits w c r
grows-fits g f = record { via = f.via; class = f.class; cached = g.cache f.via f.class f.cached; under = below_more (grows-super g) f.under; leads = chain_more (grows-edges g) f.leads }

-- Ties

abbrev pub Tied : World → Request → Request → Type 0
Tied w a b = Chain (tie_edges w.ties) a b

pub tie-turned : (ts : List Tie) (e : Edge Request) → Memᴰ e (tie_edges ts) → Memᴰ (turned e) (tie_edges ts)
unfolding tie_edges
tie-turned [] e never = elim never [ ]
tie-turned (t ∷ ts) e (Memᴰ.head q) = Memᴰ.tail (Memᴰ.head (ap turned q))
tie-turned (t ∷ ts) e (Memᴰ.tail (Memᴰ.head q)) = Memᴰ.head (ap turned q)
tie-turned (t ∷ ts) e (Memᴰ.tail (Memᴰ.tail m)) = Memᴰ.tail (Memᴰ.tail (tie-turned ts e m))

pub tied-turn : (w : World) {a b : Request} → Tied w a b → Tied w b a
tied-turn w k = chain-turn (tie-turned w.ties) k

pub tied-leads : (w : World) {a b : Request} → Tied w a b → Chain (edges w) a b
unfolding edges
tied-leads w k = chain_more (λ e m. Memᴰ.append_left (subtype_edges w.subtypes) m) k

pub fits-tied : {w : World} {c : ℕ} {a b : Request} → Fits w c a → Tied w a b → Fits w c b
fits-tied {w} f k = fits_on f (tied-leads w k)

-- Lemma 11 of the loading paper: of two classes, one below the other, what selection finds from each is tied, if each class that
-- passes the test is tied to what is found from its superclass. `R` says what is tied: argument or result, under the class's loader.

pub override : (w : World) (R : ℕ → Request) (test : ℕ → Bool) {c d e f : ℕ}
    → ((x p y : ℕ) → test x ≡ true → super_of w.base x ≡ some p → nearest (super_of w.base) test p ≡ some y → Tied w (R x) (R y))
    → Below (super_of w.base) c d → nearest (super_of w.base) test c ≡ some e → nearest (super_of w.base) test d ≡ some f → Tied w (R e) (R f)
override w R test {c} {d} {e} {f} ties (same q) he hf = stay (ap R (some-injective e f (sym he ∙ rw (sym q) at hf)))
override w R test {c} {d} {e} {f} ties (up {p} s b) he hf = go (test c) refl (λ y hy. override w R test ties b hy hf)
  where
    sup : ℕ → Option ℕ
    sup = super_of w.base

    found : (y : ℕ) × (nearest sup test p ≡ some y) × Below sup y f
    found = let r = nearest-below sup (super-falls w.base) test d f hf in nearest-finds sup (super-falls w.base) test (below-trans b r.0) r.1

    go : (t : Bool) → test c ≡ t → ((y : ℕ) → nearest sup test p ≡ some y → Tied w (R y) (R f)) → Tied w (R e) (R f)
    go true t ih =
        let z = some-injective c e (sym (nearest-here sup (super-falls w.base) test c t) ∙ he) in
        rw (sym z) (chain-join (ties c p found.0 t s found.1) (ih found.0 found.1))
    go false t ih = ih e (sym (nearest-up sup (super-falls w.base) test c p t s) ∙ he)
