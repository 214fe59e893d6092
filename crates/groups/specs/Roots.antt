-- A table `ups` leads from each place to a lower one of its group, or to none: from the lowest, the root.
use Rattle.std.specs.Prelude.{◌≡◌, List, ◌⊎◌, ℕ, ◌<◌, ◌≤◌, get_or, set}

-- r is where the way down from a place ends
pub data Root (ups : List ℕ) : ℕ → ℕ → Type 0 where
  top : {p r : ℕ} → p ≤ get_or ups p 0 → p ≡ r → Root ups p r
  up : {p r : ℕ} → get_or ups p 0 < p → Root ups (get_or ups p 0) r → Root ups p r

pub record SameRoot (ups : List ℕ) (p q : ℕ) : Type 0 where
  pub root : ℕ
  pub one : Root ups p root
  pub two : Root ups q root

-- the groups of places p and q were made one: the higher of their roots leads to the lower
pub record United (ups : List ℕ) (p q : ℕ) (ups' : List ℕ) : Type 0 where
  pub low : ℕ
  pub high : ℕ
  pub order : low ≤ high
  pub roots : (Root ups p low × Root ups q high) ⊎ (Root ups p high × Root ups q low)
  pub is : ups' ≡ set ups high low

-- the root then is answered
abbrev pub Joined : List ℕ → ℕ → ℕ → List ℕ → ℕ → Type 0
Joined ups p q ups' r = (u : United ups p q ups') × (r ≡ u.low)
