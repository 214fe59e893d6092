-- Chains carried over to a relation of places: where it holds of places of one name, goes on, and holds of the ends of each edge, it holds of
-- places that a chain joins.
use mathlib.Core.Path.{◌≡◌, refl, sym, ◌∙◌}
use mathlib.Core.List.{List, Memᴰ}
use Prim.Native.Nat.{ℕ, ◌<◌}
use Rattle.definition.specs.Chains.{Edge, Chain, stay, hop}
use Rattle.definition.specs.Requests.{Request}

-- the places of an edge's ends
pub record Carried (U : ℕ → Request) (R : ℕ → ℕ → Type 0) (n : ℕ) (e : Edge Request) : Type 0 where
  pub start : ℕ
  pub end : ℕ
  pub start_fits : start < n
  pub end_fits : end < n
  pub from : e.from ≡ U start
  pub to : e.to ≡ U end
  pub related : R start end

-- a place with the name y, to which a is related
pub record Reached (U : ℕ → Request) (R : ℕ → ℕ → Type 0) (n a : ℕ) (y : Request) : Type 0 where
  pub place : ℕ
  pub fits : place < n
  pub is : y ≡ U place
  pub related : R a place

module _ (U : ℕ → Request) (R : ℕ → ℕ → Type 0) (n : ℕ) (E : List (Edge Request)) (same : (p q : ℕ) → p < n → q < n → U p ≡ U q → R p q)
    (on : (p q r : ℕ) → R p q → R q r → R p r) (edge : (e : Edge Request) → Memᴰ e E → Carried U R n e) where
  carry : (a : ℕ) → a < n → {x y : Request} → x ≡ U a → Chain E x y → Reached U R n a y
  carry a h {x} {y} p (stay e) = record { place = a; fits = h; is = sym e ∙ p; related = same a a h h refl }
  carry a h {x} {y} p (hop {b} c m) =
      let r = carry a h p c in
      let k = edge (record { from = b; to = y }) m in
      let s = same r.place k.start r.fits k.start_fits (sym r.is ∙ k.from) in
      record { place = k.end; fits = k.end_fits; is = k.to; related = on a k.start k.end (on a r.place k.start r.related s) k.related }

  pub carried : (a b : ℕ) → a < n → b < n → Chain E (U a) (U b) → R a b
  carried a b h k c = let r = carry a h refl c in on a r.place b r.related (same r.place b r.fits k (sym r.is))
