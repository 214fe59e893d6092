-- The counts that the new tables get, cell by cell, but for the groups.
use Rattle.std.specs.Prelude.{◌≡◌, List, ℕ, ◌+◌, ◌-◌, ◌≤◌, length, get_or, ltb}
use Rattle.definition.specs.Numbers.{owners_cell, tie_numbers_cell, subtype_numbers_cell, loads_cell, counts_length}
use Rattle.definition.specs.Instructions.{pick}

-- of old counts c with n ties: the eight counts, owners, which are the quote's, the ties' numbers and the subtype constraints'; no load, and zeros behind
unfoldable pub cell_of : List ℕ → ℕ → ℕ → ℕ
cell_of c n i =
    pick (ltb i owners_cell) (get_or c i 0)
    (pick (ltb i tie_numbers_cell) 1
    (pick (ltb i subtype_numbers_cell) (i - tie_numbers_cell)
    (pick (ltb i loads_cell) (n + (i - subtype_numbers_cell)) 0)))

-- as many cells as the counts have, and none but 0 from the loads on
pub record Blank (x : List ℕ) : Type 0 where
  pub sized : length x ≡ counts_length
  pub zeros : (j : ℕ) → loads_cell ≤ j → get_or x j 0 ≡ 0
