-- The edges of subtype constraints, the ends of ties, and the row that a request is found in.
use mathlib.Core.Path.{◌≡◌, refl, ap}
use mathlib.Core.Bool.{Bool, true, false}
use mathlib.Core.Option.{some}
use mathlib.Core.List.Memᴰ
use mathlib.Core.List.{List, [], ◌∷◌, Memᴰ}
use mathlib.Core.Logic.{◌⊎◌, inl, inr}
use Prim.Native.Nat.{ℕ, zero, suc, ◌+◌, ◌<◌, ◌≤◌}
use native.Mathlib.Nat.{eq-or-lt_of_le}
use native.Mathlib.Omega.{arith}
use Rattle.definition.specs.Lists.{rows}
use Rattle.definition.specs.Chains.{Edge}
use Rattle.definition.specs.Requests.{Request, at, same_request}
use Rattle.definition.specs.Classes.{find}
use Rattle.definition.specs.Constraints.{Tie, Subtype, subtype_edges}
use Rattle.definition.specs.Tables.{entry_at}
use Rattle.laws.specs.Chains.{requests}
use Rattle.constraints.specs.Shared.{edge}

pub edge_at : {E : List (Edge Request)} {a b c d : Request} → a ≡ c → b ≡ d → Memᴰ (edge c d) E → Memᴰ (edge a b) E
edge_at p q m = rw (p, q) m

-- from a tie's one end to its other
abbrev pub forward : Tie → Edge Request
forward t = record { from = at t.one t.name; to = at t.two t.name }

abbrev pub upward : Subtype → Edge Request
upward s = record { from = at s.loader s.low; to = at s.loader s.high }

pub upward-in : {s : Subtype} {ss : List Subtype} → Memᴰ s ss → Memᴰ (upward s) (subtype_edges ss)
unfolding subtype_edges
upward-in (Memᴰ.head e) = Memᴰ.head (ap (λ (x : Subtype). upward x) e)
upward-in (Memᴰ.tail m) = Memᴰ.tail (upward-in m)

pub record OfSubtype (ss : List Subtype) (e : Edge Request) : Type 0 where
  pub subtype : Subtype
  pub there : Memᴰ subtype ss
  pub is : e ≡ upward subtype

pub of_subtype : (ss : List Subtype) (e : Edge Request) → Memᴰ e (subtype_edges ss) → OfSubtype ss e
unfolding subtype_edges
of_subtype [] e m = absurd (Memᴰ.not-nil m)
of_subtype (s ∷ ss) e (Memᴰ.head q) = record { subtype = s; there = Memᴰ.head refl; is = q }
of_subtype (s ∷ ss) e (Memᴰ.tail m) = let r = of_subtype ss e m in record { subtype = r.subtype; there = Memᴰ.tail r.there; is = r.is }

-- a request is found in its first row

pub not_same : (a b : Request) → (a ≡ b → ⊥) → same_request a b ≡ false
not_same a b h = go (same_request a b) refl
  where
    go : (t : Bool) → same_request a b ≡ t → t ≡ false
    go true e = absurd (h (requests.same-eq a b e))
    go false e = refl

pub find_at : (t : List ℕ) (r : Request) (k i j : ℕ) → i ≤ j → j < i + k → (entry_at t j).request ≡ r
    → ((h : ℕ) → i ≤ h → h < j → (entry_at t h).request ≡ r → ⊥) → find (rows (entry_at t) k i) r ≡ some (entry_at t j).class
unfolding rows find
find_at t r zero i j l h e f = absurd (omega arith)
find_at t r (suc k) i j l h e f = go (eq-or-lt_of_le l) (λ m. find_at t r k (suc i) j m (omega arith) e (λ x o q. f x (omega arith) q))
  where
    here : i ≡ j → same_request (entry_at t i).request r ≡ true
    here q = rw (q, e) (requests.same_refl r)

    go : (i ≡ j) ⊎ (i < j) → (i < j → find (rows (entry_at t) k (suc i)) r ≡ some (entry_at t j).class)
        → find (entry_at t i ∷ rows (entry_at t) k (suc i)) r ≡ some (entry_at t j).class
    go (inl q) g = rw (here q, find) (ap (λ (x : ℕ). some (entry_at t x).class) q)
    go (inr m) g = rw (not_same (entry_at t i).request r (f i (omega arith) m), find) (g m)
