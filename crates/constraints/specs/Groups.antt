-- Groups of places, by groups that stand beside the ties. A node that a tie names has for label the group beside the first tie that does; another is its own label.
-- Places are in one group if their nodes have one label. Nothing is asked of the groups that are lent.
use Rattle.std.specs.Prelude.{◌≡◌, true, false, ◌||◌, List, ℕ, zero, suc, ◌+◌, ◌<◌, ◌≤◌, get_or, eqb}
use Rattle.constraints.specs.Nodes.{place_limit, NodesOf}

-- the label of node x by k rows of ties from row i on: the ties under their one loader stand from place `ones` on, and behind them those under their other
unfoldable pub label_from : List ℕ → ℕ → ℕ → List ℕ → ℕ → ℕ → ℕ → ℕ
label_from nodes ones tied gs zero i x = x
label_from nodes ones tied gs (suc k) i x = elim (eqb (get_or nodes (ones + i) 0) x || eqb (get_or nodes (ones + tied + i) 0) x) [
  | true ↦ place_limit + get_or gs i 0
  | false ↦ label_from nodes ones tied gs k (suc i) x
]

-- by all of them
abbrev pub label_in : List ℕ → ℕ → ℕ → List ℕ → ℕ → ℕ
label_in nodes ones tied gs x = label_from nodes ones tied gs tied 0 x

-- each of n places has the number of a place, and that place its own
pub record Rooted (groups : List ℕ) (n : ℕ) : Type 0 where
  pub low : (p : ℕ) → p < n → get_or groups p 0 ≤ p
  pub top : (p : ℕ) → p < n → get_or groups (get_or groups p 0) 0 ≡ get_or groups p 0

-- the groups of the places before the ties': the first place with the same label
pub record GroupsOf (nodes : List ℕ) (ones tied : ℕ) (gs groups : List ℕ) : Type 0 where
  pub labels : List ℕ
  pub is_label : (p : ℕ) → p < ones → get_or labels p 0 ≡ label_in nodes ones tied gs (get_or nodes p 0)
  pub is_group : NodesOf labels ones groups
