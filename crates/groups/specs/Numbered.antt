-- Groups beside the ties of a counts table: whether they stand there, and writing them.
use Rattle.std.specs.Prelude.{Bool, true, false, ◌&&◌, List, ℕ, get_or, leb}
use Rattle.definition.specs.Numbers.{tie_limit, tie_numbers_cell, groups_cell}
use Rattle.definition.specs.Lists.{rows, all, same_list, write_rows}
use Rattle.definition.specs.Tables.{number_at, put_number}
use Rattle.definition.specs.Broken.{tie_fits}
use Rattle.groups.specs.Lowest.{ties_at}
use Rattle.groups.specs.Laws.{groups_by}

-- the number of row i's root
abbrev pub root_numbers : List ℕ → List ℕ → ℕ → ℕ
root_numbers counts roots i = number_at tie_numbers_cell counts (get_or roots i 0)

-- no more ties than there may be, and no loader past the last
abbrev pub ties_fit : List ℕ → ℕ → Bool
ties_fit ties n = leb n tie_limit && all tie_fits (ties_at ties n)

-- the ties fit, and the groups of n of them stand beside them
unfoldable pub groups_fit : List ℕ → List ℕ → ℕ → Bool
groups_fit counts ties n = ties_fit ties n && same_list (rows (number_at groups_cell counts) n 0) (groups_by counts ties n)

-- counts with the groups of n ties, if these fit
unfoldable pub regrouped : List ℕ → List ℕ → ℕ → List ℕ
regrouped counts ties n = elim (ties_fit ties n) [ true ↦ write_rows (put_number groups_cell) (groups_by counts ties n) 0 counts | false ↦ counts ]
