-- The groups beside the ties, the last section of the counts table: what is right and put again changes nothing, no other cell is written, and groups that were
-- put are read back.
use Rattle.std.specs.Prelude.{◌≡◌, refl, Bool, true, false, List, [], ◌∷◌, map, ℕ, suc, ◌+◌, ◌<◌, ◌≤◌, length, get_or, eqb}
use Rattle.std.proofs.Common.{sym, ap, ◌∙◌, arith, eqb-true, eq-eqb}
use Rattle.std.proofs.lemmas.Bool.{false≢true}
use Rattle.definition.specs.Numbers.{count_ties, groups_cell}
use Rattle.definition.specs.Lists.{rows, write_rows, same_list}
use Rattle.definition.specs.Requests.{at}
use Rattle.definition.specs.Constraints.{Tie}
use Rattle.definition.specs.Groups.{group_of, cell_of, groups_of}
use Rattle.definition.specs.Tables.{Tables, tie_at, number_at, put_number, ties_of, numbers_of, view_over, view, put_groups}
use Rattle.definition.specs.Broken.{groups_in, grouped}
use Rattle.layout.specs.Places.{rows-length, write_rows-length}
use Rattle.layout.specs.NumberedRows.{put_number-length, numbers-before, numbers-behind, numbers-kept, numbers-back}

-- Lists of the same numbers are one

equal-lists : (xs ys : List ℕ) → same_list xs ys ≡ true → xs ≡ ys
unfolding same_list
equal-lists [] [] h = refl
equal-lists [] (y ∷ ys) h = absurd (false≢true h)
equal-lists (x ∷ xs) [] h = absurd (false≢true h)
equal-lists (x ∷ xs) (y ∷ ys) h = go (eqb x y) refl h (equal-lists xs ys)
  where
    go : (t : Bool) → eqb x y ≡ t → (elim t as (λ _. Bool) [ true ↦ same_list xs ys | false ↦ false ]) ≡ true → (same_list xs ys ≡ true → xs ≡ ys) → x ∷ xs ≡ y ∷ ys
    go true e r f = λ i. eqb-true x y e i ∷ f r i
    go false e r f = absurd (false≢true r)

list-equal : (xs : List ℕ) → same_list xs xs ≡ true
unfolding same_list
list-equal [] = refl
list-equal (x ∷ xs) = rw (eq-eqb x x refl, same_list) (list-equal xs)

-- Each row of ties has a group

pub groups-length : (ts : List Tie) (ns : List ℕ) → length (groups_of ts ns) ≡ length ts
unfolding groups_of
groups-length ts ns = each ts
  where
    each : (us : List Tie) → length (map (λ t. cell_of (group_of ts ns (at t.one t.name))) us) ≡ length us
    each [] = refl
    each (u ∷ us) = ap suc (each us)

-- What word 1 asks: the cells are those of the ties and their numbers

pub grouped-is : (t : Tables) → grouped t ≡ true → groups_in t ≡ groups_of (ties_of t) (numbers_of t).ties
unfolding grouped view view_over
grouped-is t h = equal-lists _ _ h

pub is-grouped : (t : Tables) → groups_in t ≡ groups_of (ties_of t) (numbers_of t).ties → grouped t ≡ true
unfolding grouped view view_over
is-grouped t e = ap (λ (gs : List ℕ). same_list gs (groups_of (ties_of t) (numbers_of t).ties)) e ∙ list-equal (groups_of (ties_of t) (numbers_of t).ties)

-- without ties there is nothing to be wrong
pub no-ties-grouped : (t : Tables) → (view t).ties ≡ [] → grouped t ≡ true
unfolding view view_over rows groups_of
no-ties-grouped t e =
    let n : get_or t.counts count_ties 0 ≡ 0 = sym (rows-length (tie_at t.ties) (get_or t.counts count_ties 0) 0) ∙ ap length e in
    is-grouped t (ap (λ (k : ℕ). rows (number_at groups_cell t.counts) k 0) n ∙ ap (λ (ts : List Tie). groups_of ts (numbers_of t).ties) (sym e))

-- The section

pub put_groups-length : (ts : List Tie) (ns c : List ℕ) → length (put_groups ts ns c) ≡ length c
unfolding put_groups
put_groups-length ts ns c = write_rows-length (put_number groups_cell) (put_number-length groups_cell) (groups_of ts ns) 0 c

-- counts, owners, numbers and trace stay
pub put_groups-before : (ts : List Tie) (ns c : List ℕ) (j : ℕ) → j < groups_cell → get_or (put_groups ts ns c) j 0 ≡ get_or c j 0
unfolding put_groups
put_groups-before ts ns c j l = numbers-before groups_cell (groups_of ts ns) 0 c j l

-- and cells behind the groups of the ties
pub put_groups-behind : (ts : List Tie) (ns c : List ℕ) (j : ℕ) → groups_cell + length ts ≤ j → get_or (put_groups ts ns c) j 0 ≡ get_or c j 0
unfolding put_groups
put_groups-behind ts ns c j l = numbers-behind groups_cell (groups_of ts ns) 0 c j (omega (arith, l, groups-length ts ns))

-- groups that were put are read back
pub groups-back : (ts : List Tie) (ns c : List ℕ) → groups_cell + length ts ≤ length c → rows (number_at groups_cell (put_groups ts ns c)) (length ts) 0 ≡ groups_of ts ns
unfolding put_groups
groups-back ts ns c l =
    ap (λ (n : ℕ). rows (number_at groups_cell (write_rows (put_number groups_cell) (groups_of ts ns) 0 c)) n 0) (sym (groups-length ts ns))
    ∙ numbers-back groups_cell (groups_of ts ns) c (omega (arith, l, groups-length ts ns))

-- two counts tables say the same of groups
abbrev pub SameGroups : List ℕ → List ℕ → Type 0
SameGroups c d = (j : ℕ) → groups_cell ≤ j → get_or d j 0 ≡ get_or c j 0

-- groups that stand in c, put where they are the same
pub groups-same : (ts : List Tie) (ns c d : List ℕ) (n : ℕ) → rows (number_at groups_cell c) n 0 ≡ groups_of ts ns → SameGroups c d → put_groups ts ns d ≡ d
unfolding put_groups number_at
groups-same ts ns c d n e h = rw (← e) (numbers-kept groups_cell c d n (λ i l. h (groups_cell + i) (omega arith)))
