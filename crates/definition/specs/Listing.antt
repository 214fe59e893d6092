-- A row of constraints by its number, as the tries list them: what it says.
use Rattle.std.specs.Prelude.{true, false, List, [], ◌∷◌, map, ℕ, eqb}
use Rattle.std.proofs.Math.Option.{Option, none, some}
use Rattle.definition.specs.Numbers.{word_broken, word_unknown}
use Rattle.definition.specs.Constraints.{Tie, Subtype}
use Rattle.definition.specs.declared.Refusal.TheVariants.{Word}
use Rattle.definition.specs.Answers.{Result, refused, take?}
use Rattle.definition.specs.Tables.{Tables, RowNumbers, Rows, view}
use Rattle.definition.specs.Broken.{broken}

pub data Row : Type 0 where
  tie_row : Tie → Row
  subtype_row : Subtype → Row

-- of these rows, the one whose number is k
unfoldable pub row_numbered : List Row → List ℕ → ℕ → Option Row
row_numbered [] ns k = none
row_numbered (x ∷ xs) [] k = none
row_numbered (x ∷ xs) (n ∷ ns) k = elim (eqb n k) [ true ↦ some x | false ↦ row_numbered xs ns k ]

-- of ties and subtype constraints with their numbers
unfoldable pub row_of : List Tie → List Subtype → RowNumbers → ℕ → Option Row
row_of ts ss m k = elim (row_numbered (map tie_row ts) m.ties k) [ some x ↦ some x | none ↦ row_numbered (map subtype_row ss) m.subtypes k ]

-- A stored row. 3
unfoldable pub row_in : ℕ → Rows → Result Row
row_in k r = take? (row_of r.ties r.subtypes r.numbers k) (Word word_unknown)

-- On tables: 1 comes first
unfoldable pub stored_row : ℕ → Tables → Result Row
stored_row k t = elim (broken t) [ true ↦ refused (Word word_broken) | false ↦ row_in k (view t) ]
