-- A search over the groups that links lead to. It does not go on from a group below `stop`.
-- Link e leads from the group at place `from` + e to the group at place `to` + e.
use Rattle.std.specs.Prelude.{◌≡◌, Bool, true, false, List, [], ◌∷◌, ◌⊎◌, ℕ, suc, ◌+◌, ◌<◌, ◌≤◌, length, get_or, eqb}
use Rattle.definition.specs.Lists.{rows}
use Rattle.definition.specs.Chains.{Edge, Chain, leads}
use Rattle.definition.specs.Requests.{Request, at, same_request}
use Rattle.constraints.specs.Nodes.{place_limit}

-- Links

-- the group at place `from` + e
unfoldable pub start_of : List ℕ → ℕ → ℕ → ℕ
start_of groups from e = get_or groups (from + e) 0

unfoldable pub link_of : List ℕ → ℕ → ℕ → ℕ → Edge Request
link_of groups from to e = record { from = at 0 (start_of groups from e); to = at 0 (start_of groups to e) }

unfoldable pub links_of : List ℕ → ℕ → ℕ → ℕ → List (Edge Request)
links_of groups from to noted = rows (link_of groups from to) noted 0

-- a chain of links goes from group a to group b
abbrev pub Led : List ℕ → ℕ → ℕ → ℕ → ℕ → ℕ → Type 0
Led groups from to noted a b = Chain (links_of groups from to noted) (at 0 a) (at 0 b)

-- whether one of subtype constraints does, each from the group of its lower name to the group `noted` places behind, of its higher
unfoldable pub leads_on : List ℕ → ℕ → ℕ → ℕ → ℕ → Bool
leads_on groups cached noted a b = leads same_request (links_of groups cached (cached + noted) noted) (at 0 a) (at 0 b)

-- a link from x to y
pub record Link (groups : List ℕ) (from to noted x y : ℕ) : Type 0 where
  pub number : ℕ
  pub fits : number < noted
  pub start : start_of groups from number ≡ x
  pub end : start_of groups to number ≡ y

-- Marks: a cell with the search's stamp, a number above those of earlier searches

abbrev pub Marked : ℕ → List ℕ → ℕ → Type 0
Marked stamp marks x = get_or marks x 0 ≡ stamp

unfoldable pub marked : ℕ → List ℕ → ℕ
marked stamp [] = 0
marked stamp (x ∷ xs) = elim (eqb x stamp) [ true ↦ suc (marked stamp xs) | false ↦ marked stamp xs ]

-- so many cells, with marks up to a stamp
pub record Stamped (size stamp : ℕ) (marks : List ℕ) : Type 0 where
  pub long : length marks ≡ size
  pub most : (x : ℕ) → get_or marks x 0 ≤ stamp

-- the queue's first `tail` places hold marked groups, among them those from `stop` on
pub record Queued (stop stamp : ℕ) (marks queue : List ℕ) (tail : ℕ) : Type 0 where
  pub stamped : Stamped place_limit stamp marks
  pub queue_long : length queue ≡ place_limit
  pub few : tail ≤ marked stamp marks
  pub is_marked : (p : ℕ) → p < tail → Marked stamp marks (get_or queue p 0)
  pub is_queued : (x : ℕ) → stop ≤ x → Marked stamp marks x → (p : ℕ) × (p < tail) × (get_or queue p 0 ≡ x)

-- marks and queue grew
pub record Grown (stamp : ℕ) (marks queue : List ℕ) (tail : ℕ) (marks' queue' : List ℕ) (tail' : ℕ) : Type 0 where
  pub more : tail ≤ tail'
  pub still : (x : ℕ) → Marked stamp marks x → Marked stamp marks' x
  pub place : (p : ℕ) → p < tail → get_or queue' p 0 ≡ get_or queue p 0

-- a group was marked, and queued if it is not below `stop`
pub record Visited (stop stamp x : ℕ) (marks queue : List ℕ) (tail : ℕ) (marks' queue' : List ℕ) (tail' : ℕ) : Type 0 where
  pub queued : Queued stop stamp marks' queue' tail'
  pub grown : Grown stamp marks queue tail marks' queue' tail'
  pub it : Marked stamp marks' x
  pub only : (y : ℕ) → Marked stamp marks' y → Marked stamp marks y ⊎ (y ≡ x)

-- the ends of the links from x were visited
pub record Expanded (groups : List ℕ) (stop from to noted stamp x : ℕ) (marks queue : List ℕ) (tail : ℕ) (marks' queue' : List ℕ) (tail' : ℕ) : Type 0 where
  pub queued : Queued stop stamp marks' queue' tail'
  pub grown : Grown stamp marks queue tail marks' queue' tail'
  pub all : (y : ℕ) → Link groups from to noted x y → Marked stamp marks' y
  pub only : (y : ℕ) → Marked stamp marks' y → Marked stamp marks y ⊎ Link groups from to noted x y

-- what is marked from a: only what it leads to; the ends of its links; and of the links from marked groups that are not below `stop`
pub record Searched (groups : List ℕ) (stop from to noted stamp a : ℕ) (marks : List ℕ) : Type 0 where
  pub stamped : Stamped place_limit stamp marks
  pub sound : (y : ℕ) → Marked stamp marks y → Led groups from to noted a y
  pub first : (y : ℕ) → Link groups from to noted a y → Marked stamp marks y
  pub closed : (x y : ℕ) → stop ≤ x → Marked stamp marks x → Link groups from to noted x y → Marked stamp marks y
