-- Who named a request. A table `firsts` has for each request, by its key, one more than a row of the group that names it, or 0; a row that names a request which
-- another named before joins that group.
use Rattle.std.specs.Prelude.{◌≡◌, List, ◌⊎◌, ℕ, suc, ◌+◌, ◌*◌, ◌<◌, ◌≤◌, length, get_or, set}
use Rattle.definition.specs.Numbers.{tie_limit, loader_limit}
use Rattle.groups.specs.Roots.{SameRoot, Joined}

-- the key of an end of row i, whose loader stands in this cell of it
abbrev pub key_in : List ℕ → List ℕ → ℕ → ℕ → ℕ
key_in ties nodes end i = get_or nodes i 0 * loader_limit + get_or ties (i * 3 + end) 0

-- both loaders of row i have such keys
abbrev pub Loaders : List ℕ → ℕ → Type 0
Loaders ties i = (get_or ties (i * 3 + 0) 0 < loader_limit) × (get_or ties (i * 3 + 1) 0 < loader_limit)

-- row j is one of the first k and names the request of key x
abbrev pub Naming : List ℕ → List ℕ → ℕ → ℕ → ℕ → Type 0
Naming ties nodes k j x = (j < k) × ((x ≡ key_in ties nodes 0 j) ⊎ (x ≡ key_in ties nodes 1 j))

-- a row whose root is `low` names the request of a key: it is the first, or joins the group of the row that stands there; the root then stands there
pub data Claim (firsts ups : List ℕ) (key low : ℕ) (firsts' ups' : List ℕ) (r : ℕ) : Type 0 where
  fresh : get_or firsts key 0 ≡ 0 → firsts' ≡ set firsts key (r + 1) → ups' ≡ ups → r ≡ low → Claim firsts ups key low firsts' ups' r
  joins : (j : ℕ) → get_or firsts key 0 ≡ suc j → firsts' ≡ set firsts key (r + 1) → Joined ups low j ups' r → Claim firsts ups key low firsts' ups' r

-- what was named so far, by D, of the first k rows: each row shares its root with the row that stands for its request; this, and what leads down, is in the relation R
pub record Claimed (R D : ℕ → ℕ → Type 0) (k : ℕ) (firsts ups : List ℕ) : Type 0 where
  pub ups_long : length ups ≡ tie_limit
  pub claims : (x m : ℕ) → x < length firsts → get_or firsts x 0 ≡ suc m → (j : ℕ) × D j x × R j m × (m < k)
  pub joint : (j x : ℕ) → D j x → (m : ℕ) × (get_or firsts x 0 ≡ suc m) × SameRoot ups j m
  pub sound : (p : ℕ) → p < tie_limit → get_or ups p 0 < p → R p (get_or ups p 0)
  pub still : (p : ℕ) → k ≤ p → p < tie_limit → p ≤ get_or ups p 0
