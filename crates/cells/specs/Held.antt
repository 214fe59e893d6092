-- How many of a row of cells a table holds.
use Rattle.std.specs.Prelude.{List, ℕ, ◌+◌, ◌<◌, ◌≤◌, length}

-- of n cells from cell `first` on the table holds the first `held`
pub record Held (t : List ℕ) (first n held : ℕ) : Type 0 where
  pub few : held ≤ n
  pub here : (i : ℕ) → i < held → first + i < length t
  pub past : (i : ℕ) → held ≤ i → i < n → length t ≤ first + i
