-- Ties and notes posted to tables.
use Rattle.std.specs.Prelude.{◌≡◌, List, ℕ, ◌+◌, ◌*◌, length}
use Rattle.definition.specs.Numbers.{tie_limit, member_limit, row_cells}
use Rattle.definition.specs.Lists.{write_rows}
use Rattle.definition.specs.Constraints.{Tie}
use Rattle.definition.specs.Tables.{put_tie}
use Rattle.definition.specs.Verifier.{Note}
use Rattle.rows.specs.Posting.{noted, post_notes}

-- cells for all ties that may be there and five more for each method of a file
abbrev pub tried_ties_length : ℕ
tried_ties_length = (tie_limit + 5 * member_limit) * row_cells

-- ties written behind the first k rows of t, and the count of rows with them
pub record TiesPosted (us : List Tie) (t : List ℕ) (k : ℕ) (u : List ℕ) (j : ℕ) : Type 0 where
  pub count : j ≡ k + length us
  pub cells : u ≡ write_rows put_tie us k t

-- the table v, of n rows, is t, of k rows, with a verifier's notes posted under loader l
abbrev pub NotesPosted : List Note → ℕ → List ℕ → ℕ → List ℕ → ℕ → Type 0
NotesPosted ns l t k v n = noted v n ≡ post_notes l ns (noted t k)
