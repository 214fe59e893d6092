-- The lowest row of each row's group: the group that the definition gives it where rows have their own places for numbers.
use Rattle.std.specs.Prelude.{◌≡◌, Bool, true, false, ◌&&◌, List, ℕ, ◌*◌, ◌<◌, ◌≤◌, length, get_or, leb}
use Rattle.definition.specs.Numbers.{tie_limit}
use Rattle.definition.specs.Lists.{rows, all}
use Rattle.definition.specs.Chains.{Chain}
use Rattle.definition.specs.Constraints.{Tie, tie_edges}
use Rattle.definition.specs.Tables.{tie_at}
use Rattle.definition.specs.Groups.{groups_of}
use Rattle.definition.specs.Broken.{tie_fits}
use Rattle.laws.specs.Groups.{one_of}
use Rattle.groups.specs.Claims.{Loaders, Naming, Claimed}

-- the numbers below n
abbrev pub up_to : ℕ → List ℕ
up_to n = rows (λ i. i) n 0

-- the first n cells
abbrev pub cells_of : List ℕ → ℕ → List ℕ
cells_of t n = rows (λ i. get_or t i 0) n 0

abbrev pub ties_at : List ℕ → ℕ → List Tie
ties_at ties n = rows (tie_at ties) n 0

-- a chain of the first n ties joins rows p and q
abbrev pub RowTied : List ℕ → ℕ → ℕ → ℕ → Type 0
RowTied ties n p q = Chain (tie_edges (ties_at ties n)) (one_of (tie_at ties p)) (one_of (tie_at ties q))

-- the rows of the first n that name one request share a root, and what leads down is a chain of ties
abbrev pub AllClaimed : List ℕ → ℕ → List ℕ → List ℕ → Type 0
AllClaimed ties n nodes ups = (firsts : List ℕ) × Claimed (RowTied ties n) (Naming ties nodes n) n firsts ups

-- n rows are in a table of ties, their loaders are among those that there are, and another table has room for their groups
abbrev pub Room : List ℕ → ℕ → List ℕ → Type 0
Room ties n roots = (n ≤ tie_limit) × (n * 3 ≤ length ties) × (n ≤ length roots) × ((i : ℕ) → i < n → Loaders ties i)

-- What is answered for n rows, and what stands in the table then: the groups if it has room and no loader is past the last; else nothing is written
pub record RowGroups (ties : List ℕ) (n : ℕ) (old : List ℕ) (r : Bool) (new : List ℕ) : Type 0 where
  pub fits : r ≡ (leb n (length old) && all tie_fits (ties_at ties n))
  pub kept : r ≡ false → new ≡ old
  pub groups : r ≡ true → cells_of new n ≡ groups_of (ties_at ties n) (up_to n)
