-- Chains of edges between nodes, whatever the nodes are: requests that constraints join, or objects that fields link. One account serves
-- both: what a chain is, and a search for all that chains reach.
use Rattle.std.specs.Prelude.{◌≡◌, Bool, true, false, ℕ, zero, suc, length}
use mathlib.Core.List.{List, [], ◌∷◌, ◌++◌, Memᴰ}

pub record Edge (A : Type 0) : Type 0 where
  pub from : A
  pub to : A

-- a chain of edges goes from a to b: b is a, or an edge leads to b from the end of a chain
pub data Chain {A : Type 0} (E : List (Edge A)) (a : A) : A → Type 0 where
  stay : {b : A} → a ≡ b → Chain E a b
  hop : {b c : A} → Chain E a b → Memᴰ (record { from = b; to = c }) E → Chain E a c

-- The search, by a test whether two nodes are the same

module _ {A : Type 0} (same : A → A → Bool) where
  unfoldable pub has : A → List A → Bool
  has x [] = false
  has x (y ∷ ys) = elim (same x y) [ true ↦ true | false ↦ has x ys ]

  -- the ends of the edges that start in R
  unfoldable pub fires : List A → List (Edge A) → List A
  fires R [] = []
  fires R (e ∷ E) = elim (has e.from R) [ true ↦ e.to ∷ fires R E | false ↦ fires R E ]

  -- the edges that do not
  unfoldable pub rest : List A → List (Edge A) → List (Edge A)
  rest R [] = []
  rest R (e ∷ E) = elim (has e.from R) [ true ↦ rest R E | false ↦ e ∷ rest R E ]

  -- R with all that k rounds reach; each round that reaches something uses up an edge
  unfoldable pub grow : ℕ → List A → List (Edge A) → List A
  grow zero R E = R
  grow (suc k) R E = elim (fires R E) [ [] ↦ R | x ∷ xs ↦ grow k ((x ∷ xs) ++ R) (rest R E) ]

  -- all that chains from the nodes of R reach
  unfoldable pub reach_from : List (Edge A) → List A → List A
  reach_from E R = grow (length E) R E

  -- all that chains from a reach
  unfoldable pub reach : List (Edge A) → A → List A
  reach E a = reach_from E (a ∷ [])

  -- whether a chain goes from a to b
  unfoldable pub leads : List (Edge A) → A → A → Bool
  leads E a b = has b (reach E a)
