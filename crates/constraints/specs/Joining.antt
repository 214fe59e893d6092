-- Places joined into lists by a key: `heads` has for each key one more than its last place, or 0, and `nexts` has for each place the same
-- of the places before it with its key.
use Rattle.std.specs.Prelude.{◌≡◌, List, ℕ, suc, ◌<◌, ◌≤◌, length, get_or}
use Rattle.constraints.specs.Nodes.{place_limit}

-- f is one more than the last of the first n places with key x, or 0
pub record Last (key : ℕ → ℕ) (x n f : ℕ) : Type 0 where
  pub high : f ≤ n
  pub here : (e : ℕ) → f ≡ suc e → key e ≡ x
  pub none : (e : ℕ) → f ≤ e → e < n → key e ≡ x → ⊥

-- the first n places are joined
pub record Joined (key : ℕ → ℕ) (n : ℕ) (heads nexts : List ℕ) : Type 0 where
  pub heads_long : length heads ≡ place_limit
  pub nexts_long : length nexts ≡ place_limit
  pub head : (x : ℕ) → x < place_limit → Last key x n (get_or heads x 0)
  pub next : (e : ℕ) → e < n → Last key (key e) e (get_or nexts e 0)
