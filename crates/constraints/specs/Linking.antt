-- The links of a store's rows between nodes: each tie forth, then each tie back, then each subtype constraint from its lower name to its higher.
use Rattle.std.specs.Prelude.{◌≡◌, true, false, List, ◌++◌, ℕ, ◌+◌, ◌<◌, get_or, min}
use Rattle.std.proofs.Math.Option.{Option, none}
use Rattle.definition.specs.Numbers.{tie_limit, subtype_limit, count_cache, count_ties, count_subtypes, tie_numbers_cell, subtype_numbers_cell}
use Rattle.definition.specs.Lists.{rows}
use Rattle.definition.specs.Tables.{number_at, tie_at, subtype_at}
use Rattle.definition.specs.Reasons.{Link, tie_links, subtype_links, reason_over}
use Rattle.laws.specs.Earlier.{row_before}
use Rattle.rows.specs.Numbers.{numbers_fit}
use Rattle.constraints.specs.Agreement.{super_in, entries_in}

-- the most links there are
abbrev pub link_limit : ℕ
link_limit = tie_limit + tie_limit + subtype_limit

-- n cells from `from` on of a table stand from `at` on in another, which has the rest as it was
pub record Copied (source : List ℕ) (from n : ℕ) (old new : List ℕ) (at : ℕ) : Type 0 where
  pub put : (i : ℕ) → i < n → get_or new (at + i) 0 ≡ get_or source (from + i) 0
  pub kept : (i : ℕ) → i < at → get_or new i 0 ≡ get_or old i 0

-- the ends of the links
pub record Linked (nodes : List ℕ) (n noted tied : ℕ) (froms tos : List ℕ) : Type 0 where
  pub forth_from : (i : ℕ) → i < tied → get_or froms i 0 ≡ get_or nodes (n + noted + noted + i) 0
  pub forth_to : (i : ℕ) → i < tied → get_or tos i 0 ≡ get_or nodes (n + noted + noted + tied + i) 0
  pub back_from : (i : ℕ) → i < tied → get_or froms (tied + i) 0 ≡ get_or nodes (n + noted + noted + tied + i) 0
  pub back_to : (i : ℕ) → i < tied → get_or tos (tied + i) 0 ≡ get_or nodes (n + noted + noted + i) 0
  pub up_from : (i : ℕ) → i < noted → get_or froms (tied + tied + i) 0 ≡ get_or nodes (n + i) 0
  pub up_to : (i : ℕ) → i < noted → get_or tos (tied + tied + i) 0 ≡ get_or nodes (n + noted + i) 0

-- and their rows' numbers
pub record Labelled (counts : List ℕ) (noted tied : ℕ) (labels : List ℕ) : Type 0 where
  pub forth : (i : ℕ) → i < tied → get_or labels i 0 ≡ number_at tie_numbers_cell counts i
  pub back : (i : ℕ) → i < tied → get_or labels (tied + i) 0 ≡ number_at tie_numbers_cell counts i
  pub up : (i : ℕ) → i < noted → get_or labels (tied + tied + i) 0 ≡ number_at subtype_numbers_cell counts i

-- The links of the first rows of the tables, with their numbers

abbrev pub tie_links_in : List ℕ → List ℕ → List Link
tie_links_in counts ties = let n = min (get_or counts count_ties 0) tie_limit in tie_links (rows (tie_at ties) n 0) (rows (number_at tie_numbers_cell counts) n 0)

abbrev pub subtype_links_in : List ℕ → List ℕ → List Link
subtype_links_in counts subtypes = let n = min (get_or counts count_subtypes 0) subtype_limit in subtype_links (rows (subtype_at subtypes) n 0) (rows (number_at subtype_numbers_cell counts) n 0)

-- why the store of these tables doesn't agree; none where it does, or where the rows' numbers aren't in turn
unfoldable pub reason_in : List ℕ → List ℕ → List ℕ → List ℕ → List ℕ → Option (List ℕ)
reason_in supers counts cache ties subtypes = elim (numbers_fit counts) [
  | true ↦ reason_over row_before (super_in supers) (entries_in cache (get_or counts count_cache 0)) (tie_links_in counts ties) (tie_links_in counts ties ++ subtype_links_in counts subtypes)
  | false ↦ none
]
