-- Groups as numbers beside the ties: cells compared and written one after the other.
use mathlib.Core.Path.{◌≡◌, refl, sym, ap, subst, ◌∙◌}
use mathlib.Core.Bool.{Bool, true, false, ◌&&◌}
use mathlib.Core.Option.{some-injective}
use mathlib.Core.List.{List, ◌∷◌, map}
use Prim.Native.Nat.{min, ℕ, zero, suc, ◌+◌, ◌-◌, ◌<◌, ◌≤◌}
use native.Mathlib.Omega.{arith}
use lib.ListN.{length, get_or, set, get_elem?}
use lib.Dec.{leb}
use borrow.Author.Tests.{eq-eqb, ne_eqb, lt-leb}
use Rattle.definition.specs.Numbers.{tie_numbers_cell, groups_cell}
use Rattle.definition.specs.Lists.{rows, all, same_list, write_rows}
use Rattle.definition.specs.Tables.{tie_at, number_at, put_number}
use Rattle.definition.specs.Broken.{tie_fits}
use Rattle.laws.specs.Groups.{group-at}
use Rattle.layout.specs.Places.{rows-length, rows-there, rows_step, rows_none}
use Rattle.layout.specs.NumberedRows.{numbers-before}
use Rattle.groups.specs.Lowest.{up_to, ties_at, RowGroups}
use Rattle.groups.specs.Laws.{there-row, groups_by}
use Rattle.groups.specs.Numbered.{root_numbers, ties_fit, groups_fit, regrouped}

-- Two lists of rows compared

module _ (f g : ℕ → ℕ) (n : ℕ) where
  pub same-hit : (i : ℕ) → i < n → (f i ≡ g i → ⊥) → same_list (rows f (n - i) i) (rows g (n - i) i) ≡ false
  unfolding same_list
  same-hit i h e = rw (rows_step f n i h, rows_step g n i h, ne_eqb (f i) (g i) e, same_list) refl

  pub same-on : (i : ℕ) → i < n → f i ≡ g i → same_list (rows f (n - i) i) (rows g (n - i) i) ≡ same_list (rows f (n - (i + 1)) (i + 1)) (rows g (n - (i + 1)) (i + 1))
  unfolding same_list
  same-on i h e = rw (rows_step f n i h, rows_step g n i h, eq-eqb (f i) (g i) e, same_list) refl

  pub same_end : (i : ℕ) → n ≤ i → same_list (rows f (n - i) i) (rows g (n - i) i) ≡ true
  unfolding same_list
  same_end i h = rw (rows_none f n i h, rows_none g n i h) refl

-- Cells written, the last first

module _ (counts roots : List ℕ) (n : ℕ) where
  abbrev pub wrote : ℕ → List ℕ
  wrote i = write_rows (put_number groups_cell) (rows (root_numbers counts roots) (n - i) i) i counts

  pub write-start : counts ≡ wrote n
  unfolding write_rows
  write-start = rw (rows_none (root_numbers counts roots) n n (omega arith)) refl

  pub write-more : (i : ℕ) → i < n → get_or roots i 0 < 256 → (c : List ℕ) (v : ℕ) → c ≡ wrote (i + 1) → v ≡ number_at tie_numbers_cell c (get_or roots i 0) → set c (groups_cell + i) v ≡ wrote i
  unfolding write_rows put_number number_at
  write-more i h few c v e q =
      let s : i + 1 ≡ suc i = omega arith in
      let w : v ≡ root_numbers counts roots i = q ∙ ap (λ (d : List ℕ). get_or d (tie_numbers_cell + get_or roots i 0) 0) e ∙ numbers-before groups_cell (rows (root_numbers counts roots) (n - (i + 1)) (i + 1)) (i + 1) counts (tie_numbers_cell + get_or roots i 0) (omega arith) in
      (λ j. set (e j) (groups_cell + i) (w j)) ∙ sym (rw (rows_step (root_numbers counts roots) n i h, ← s) refl)

-- What is tested and written, by what is said of rows

count-few : (n : ℕ) → n ≤ 256 → min n 256 ≡ n
count-few n h = omega arith

map_rows : {A B : Type 0} (f : A → B) (g : ℕ → A) (n i : ℕ) → rows (λ i. f (g i)) n i ≡ map f (rows g n i)
unfolding rows
map_rows f g zero i = refl
map_rows f g (suc n) i = λ j. f (g i) ∷ map_rows f g n (suc i) j

pub many-fit : (counts ties : List ℕ) (n : ℕ) → 256 < n → false ≡ groups_fit counts ties n
unfolding groups_fit
many-fit counts ties n h = rw (lt-leb n 256 h) refl

pub many-kept : (counts ties : List ℕ) (n : ℕ) → 256 < n → counts ≡ regrouped counts ties n
unfolding regrouped
many-kept counts ties n h = rw (lt-leb n 256 h, regrouped) refl

module _ (counts ties : List ℕ) (n : ℕ) (few : n ≤ 256) {old new : List ℕ} (long : length old ≡ 256) {r : Bool} (told : RowGroups ties (min n 256) old r new) where
  tells : RowGroups ties n old r new
  tells = subst (λ (x : ℕ). RowGroups ties x old r new) (count-few n few) told

  fits-is : ties_fit ties n ≡ r
  fits-is = sym (tells.fits ∙ ap (λ (x : ℕ). leb n x && all tie_fits (ties_at ties n)) long)

  root-rows : r ≡ true → rows (root_numbers counts new) n 0 ≡ groups_by counts ties n
  root-rows e = map_rows (number_at tie_numbers_cell counts) (λ i. get_or new i 0) n 0 ∙ ap (map (number_at tie_numbers_cell counts)) (tells.groups e)

  pub root-few : r ≡ true → (i : ℕ) → i < n → get_or new i 0 < 256
  root-few e i h =
      let w = group-at (ties_at ties n) (up_to n) (rows-length (λ i. i) n 0 ∙ sym (rows-length (tie_at ties) n 0)) i (tie_at ties i) (rows-there (tie_at ties) n i h) in
      let q : get_or new i 0 ≡ w.0 = some-injective _ _ (sym (rows-there (λ i. get_or new i 0) n i h) ∙ ap (λ (gs : List ℕ). get_elem? gs i) (tells.groups e) ∙ w.1) in
      let z = there-row (λ i. i) n w.2.row.row w.0 w.2.row.number in
      omega (arith, q, z.0, z.1)

  pub none-fit : r ≡ false → false ≡ groups_fit counts ties n
  unfolding groups_fit
  none-fit e = rw (fits-is ∙ e) refl

  pub cells_right : r ≡ true → (b : Bool) → b ≡ same_list (rows (number_at groups_cell counts) n 0) (rows (root_numbers counts new) n 0) → b ≡ groups_fit counts ties n
  unfolding groups_fit
  cells_right e b q = rw (fits-is ∙ e) (q ∙ ap (same_list (rows (number_at groups_cell counts) n 0)) (root-rows e))

  pub none_kept : r ≡ false → counts ≡ regrouped counts ties n
  unfolding regrouped
  none_kept e = rw (fits-is ∙ e, regrouped) refl

  pub cells-put : r ≡ true → (c : List ℕ) → c ≡ write_rows (put_number groups_cell) (rows (root_numbers counts new) n 0) 0 counts → c ≡ regrouped counts ties n
  unfolding regrouped
  cells-put e c q = rw (fits-is ∙ e, regrouped) (q ∙ ap (λ (gs : List ℕ). write_rows (put_number groups_cell) gs 0 counts) (root-rows e))
