-- Groups of tied requests. A group has a number, which stands beside the ties: each row has that of the group of both its ends.
use Rattle.std.specs.Prelude.{true, false, List, [], ◌∷◌, map, ℕ, ltb}
use Rattle.std.proofs.Math.Option.{Option, none, some}
use Rattle.definition.specs.Chains.{has, reach}
use Rattle.definition.specs.Requests.{Request, at, same_request}
use Rattle.definition.specs.Constraints.{Tie, tie_edges}
use Rattle.definition.specs.Instructions.{pick}

-- of the numbers ns those of the ties whose one end is in R; if chains of ties reach it, they reach the other
unfoldable pub numbers_of_ties : List Request → List Tie → List ℕ → List ℕ
numbers_of_ties R [] ns = []
numbers_of_ties R (t ∷ ts) [] = []
numbers_of_ties R (t ∷ ts) (n ∷ ns) = elim (has same_request (at t.one t.name) R) [ true ↦ n ∷ numbers_of_ties R ts ns | false ↦ numbers_of_ties R ts ns ]

unfoldable pub lesser : ℕ → Option ℕ → ℕ
lesser n none = n
lesser n (some m) = pick (ltb m n) m n

unfoldable pub lowest : List ℕ → Option ℕ
lowest [] = none
lowest (n ∷ ns) = some (lesser n (lowest ns))

-- the number of a request's group: the lowest of the ties that chains of ties join to it; a request that no tie names has none
unfoldable pub group_of : List Tie → List ℕ → Request → Option ℕ
group_of ts ns a = lowest (numbers_of_ties (reach same_request (tie_edges ts) a) ts ns)

-- as a cell holds it, and of each row of ties
unfoldable pub cell_of : Option ℕ → ℕ
cell_of none = 0
cell_of (some g) = g

unfoldable pub groups_of : List Tie → List ℕ → List ℕ
groups_of ts ns = map (λ t. cell_of (group_of ts ns (at t.one t.name))) ts
