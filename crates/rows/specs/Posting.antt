-- What posting writes: the new rows behind those that a table has, and the new count.
use Rattle.std.specs.Prelude.{true, false, List, [], ◌∷◌, ℕ, ◌+◌, length, leb}
use Rattle.definition.specs.Numbers.{subtype_limit}
use Rattle.definition.specs.Lists.{rows, write_rows}
use Rattle.definition.specs.Constraints.{Subtype}
use Rattle.definition.specs.Loading.{new_subtypes}
use Rattle.definition.specs.Tables.{subtype_at, put_subtype}
use Rattle.definition.specs.Verifier.{Note}

abbrev pub note : ℕ → ℕ → Note
note low high = record { low = low; high = high }

-- the subtype constraints that notes add to the first rows of a table
unfoldable pub new_subtypes_in : List ℕ → ℕ → ℕ → List Note → List Subtype
new_subtypes_in t count loader notes = new_subtypes (rows (subtype_at t) count 0) loader notes

-- the rows behind the first ones
unfoldable pub subtypes_after : List ℕ → ℕ → List Subtype → List ℕ
subtypes_after t count new = write_rows put_subtype new count t

-- a table of subtype constraints, and how many rows it has; more than 256 stand for too many
pub record Noted : Type 0 where
  pub table : List ℕ
  pub count : ℕ

abbrev pub noted : List ℕ → ℕ → Noted
noted t count = record { table = t; count = count }

-- a note posted: a row behind the last, unless it is there; nothing more once there are too many
unfoldable pub post_note : ℕ → Note → Noted → Noted
post_note loader n k = elim (leb k.count subtype_limit) [
  | true ↦ let new = new_subtypes_in k.table k.count loader (n ∷ []) in noted (subtypes_after k.table k.count new) (k.count + length new)
  | false ↦ k
]

unfoldable pub post_notes : ℕ → List Note → Noted → Noted
post_notes loader [] k = k
post_notes loader (n ∷ ns) k = post_notes loader ns (post_note loader n k)
