-- The counts that the new tables get: what stands in each section, and with the groups of the ties they are those that the definition carries.
use mathlib.Core.Path.{◌≡◌, refl, sym, ap, subst, ◌∙◌}
use mathlib.Core.Bool.{Bool, true, false}
use mathlib.Core.List.{List, [], ◌∷◌, ◌++◌, append_assoc}
use Prim.Native.Nat.{ℕ, zero, suc, ◌+◌, ◌-◌, ◌<◌, ◌≤◌}
use native.Mathlib.Omega.{arith}
use lib.ListN.{length, get_or, set, replicate, length-append, length-replicate}
use lib.Seq.{take_all, set_at, ext_get_or, get_or-set_other}
use lib.Dec.{ltb}
use borrow.Author.Tests.{lt-ltb, le-ltb, ltb-true, ltb-false}
use Rattle.definition.specs.Numbers.{count_ties, owners_cell, tie_numbers_cell, subtype_numbers_cell, loads_cell, groups_cell, counts_length, object_limit, tie_limit, subtype_limit}
use Rattle.definition.specs.Lists.{rows, write_rows, filled}
use Rattle.definition.specs.Instructions.{pick}
use Rattle.definition.specs.Groups.{groups_of}
use Rattle.definition.specs.Tables.{tie_at, number_at, put_number, put_groups, ties_of}
use Rattle.definition.specs.Calls.{numbers_from}
use Rattle.definition.specs.Changeover.{no_trace, carry}
use Rattle.definition.specs.First.Tables.{FirstTables}
use Rattle.layout.specs.Places.{rows-length, rows-get_d, rows_both, rows-cong, rows_take}
use Rattle.layout.specs.GroupedRows.{groups-length}
use Rattle.layout.specs.InTurn.{RisesFrom}
use Rattle.groups.specs.Laws.{numbers_in}
use Rattle.groups.specs.Numbered.{ties_fit, regrouped}
use Rattle.groups.specs.Grouped.{regrouped-is}
use Rattle.changing.specs.Cells.{cell_of, Blank}
use Rattle.changing.proofs.Copies.{Copying}

-- A cell by the section that it is in

module _ (c : List ℕ) (n i : ℕ) where
  pub cell-count : i < owners_cell → get_or c i 0 ≡ cell_of c n i
  unfolding cell_of pick
  cell-count l = rw (lt-ltb i owners_cell l, pick) refl

  pub cell-owner : owners_cell ≤ i → i < tie_numbers_cell → 1 ≡ cell_of c n i
  unfolding cell_of pick
  cell-owner a l = rw (le-ltb i owners_cell a, pick, lt-ltb i tie_numbers_cell l, pick) refl

  pub cell-tie : tie_numbers_cell ≤ i → i < subtype_numbers_cell → i - tie_numbers_cell ≡ cell_of c n i
  unfolding cell_of pick
  cell-tie a l = rw (le-ltb i owners_cell (omega arith), pick, le-ltb i tie_numbers_cell a, pick, lt-ltb i subtype_numbers_cell l, pick) refl

  pub cell-subtype : subtype_numbers_cell ≤ i → i < loads_cell → n + (i - subtype_numbers_cell) ≡ cell_of c n i
  unfolding cell_of pick
  cell-subtype a l = rw (le-ltb i owners_cell (omega arith), pick, le-ltb i tie_numbers_cell (omega arith), pick, le-ltb i subtype_numbers_cell a, pick, lt-ltb i loads_cell l, pick) refl

  pub cell-behind : loads_cell ≤ i → 0 ≡ cell_of c n i
  unfolding cell_of pick
  cell-behind a = rw (le-ltb i owners_cell (omega arith), pick, le-ltb i tie_numbers_cell (omega arith), pick, le-ltb i subtype_numbers_cell (omega arith), pick, le-ltb i loads_cell a, pick) refl

-- the cell of a list of all of them
pub listed_at : (f : ℕ → ℕ) (i : ℕ) → i < counts_length → f i ≡ get_or (rows f counts_length 0) i 0
listed_at f i l = let z : 0 + i ≡ i = omega arith in sym (rows-get_d f counts_length 0 i 0 l ∙ ap f z)

-- a table of one number
same-cell : (v n j : ℕ) → get_or (replicate n v) j v ≡ v
same-cell v zero j = refl
same-cell v (suc n) zero = refl
same-cell v (suc n) (suc j) = same-cell v n j

pub blank : Blank (replicate counts_length 0)
blank = let v : ℕ = 0 in record { sized = length-replicate counts_length v; zeros = λ j l. same-cell v counts_length j }

-- a cell before the loads is written: those from there on stay
pub behind-set : (x : List ℕ) (i v : ℕ) → i < loads_cell → ((j : ℕ) → loads_cell ≤ j → get_or x j 0 ≡ 0) → (j : ℕ) → loads_cell ≤ j → get_or (set x i v) j 0 ≡ 0
behind-set x i v l z = λ j a. get_or-set_other x i j v 0 (λ e. omega (arith, l, a, e)) ∙ z j a

-- with zeros from the loads on, the cells before them are enough
pub listed-whole : (c : List ℕ) (n : ℕ) (x : List ℕ) {i : ℕ} → Copying (rows (cell_of c n) counts_length 0) x i → loads_cell ≤ i → ((j : ℕ) → loads_cell ≤ j → get_or x j 0 ≡ 0)
    → x ≡ rows (cell_of c n) counts_length 0
listed-whole c n x {i} h l z = ext_get_or 0 x (rows (cell_of c n) counts_length 0) (sym h.sized) (λ j k. go j k (ltb j loads_cell) refl)
  where
    go : (j : ℕ) → j < length x → (b : Bool) → ltb j loads_cell ≡ b → get_or x j 0 ≡ get_or (rows (cell_of c n) counts_length 0) j 0
    go j k true e = h.done j (omega (arith, ltb-true j loads_cell e, l))
    go j k false e =
        z j (ltb-false j loads_cell e) ∙ (cell-behind c n j (ltb-false j loads_cell e)
        ∙ listed_at (cell_of c n) j (omega (arith, k, h.sized, rows-length (cell_of c n) counts_length 0)))

-- Sections as lists

-- the same rows from another place on
rows_alike : (f g : ℕ → ℕ) (k i j : ℕ) → ((m : ℕ) → m < k → f (i + m) ≡ g (j + m)) → rows f k i ≡ rows g k j
unfolding rows
rows_alike f g zero i j h = refl
rows_alike f g (suc k) i j h =
    let a : i ≡ i + 0 = omega arith in
    let b : j + 0 ≡ j = omega arith in
    let z : f i ≡ g j = ap f a ∙ (h 0 (omega arith) ∙ ap g b) in
    let zs : rows f k (suc i) ≡ rows g k (suc j) = rows_alike f g k (suc i) (suc j) (λ m l.
    let p : suc i + m ≡ i + suc m = omega arith in
    let q : j + suc m ≡ suc j + m = omega arith in
    ap f p ∙ (h (suc m) (omega arith) ∙ ap g q)) in
    λ x. z x ∷ zs x

rows-one : (x k i : ℕ) → rows (λ _. x) k i ≡ replicate k x
unfolding rows
rows-one x zero i = refl
rows-one x (suc k) i = λ z. x ∷ rows-one x k (suc i) z

five : (a b c d e g : List ℕ) → (a ++ (b ++ (c ++ (d ++ e)))) ++ g ≡ a ++ (b ++ (c ++ (d ++ (e ++ g))))
five a b c d e g = simp append_assoc

module _ (c : List ℕ) (n : ℕ) (eight : length c ≡ owners_cell) where
  abbrev cell : ℕ → ℕ
  cell = cell_of c n

  the-counts : rows cell owners_cell 0 ≡ c
  the-counts =
      rows-cong cell (λ i. get_or c i 0) owners_cell 0 (λ i _ l. sym (cell-count c n i (omega arith)))
      ∙ (rows_take c owners_cell (omega arith) ∙ take_all owners_cell c (omega arith))

  the-owners : rows cell object_limit owners_cell ≡ replicate object_limit 1
  the-owners = rows-cong cell (λ _. 1) object_limit owners_cell (λ i a l. sym (cell-owner c n i a (omega arith))) ∙ rows-one 1 object_limit owners_cell

  the-ties : rows cell tie_limit tie_numbers_cell ≡ numbers_from 0 tie_limit
  the-ties = rows_alike cell (λ i. i) tie_limit tie_numbers_cell 0 (λ m l.
      let e : tie_numbers_cell + m - tie_numbers_cell ≡ 0 + m = omega arith in
      sym (cell-tie c n (tie_numbers_cell + m) (omega arith) (omega arith)) ∙ e)

  the-subtypes : rows cell subtype_limit subtype_numbers_cell ≡ numbers_from n subtype_limit
  the-subtypes = rows_alike cell (λ i. i) subtype_limit subtype_numbers_cell n (λ m l.
      let e : n + (subtype_numbers_cell + m - subtype_numbers_cell) ≡ n + m = omega arith in
      sym (cell-subtype c n (subtype_numbers_cell + m) (omega arith) (omega arith)) ∙ e)

  the-zeros : (k i : ℕ) → loads_cell ≤ i → rows cell k i ≡ replicate k 0
  the-zeros k i l = rows-cong cell (λ _. 0) k i (λ m a _. sym (cell-behind c n m (omega arith))) ∙ rows-one 0 k i

  -- all that stands before the groups
  pub before-groups : rows cell groups_cell 0 ≡ c ++ (replicate object_limit 1 ++ (numbers_from 0 tie_limit ++ (numbers_from n subtype_limit ++ no_trace)))
  before-groups =
      rows_both cell 8 929 0 ∙ λ i. the-counts i ++
      ((rows_both cell 256 673 8 ∙ λ i. the-owners i ++
      ((rows_both cell 256 417 264 ∙ λ i. the-ties i ++
      ((rows_both cell 256 161 520 ∙ λ i. the-subtypes i ++ the-zeros 161 776 (omega arith) i) i)) i)) i)

-- Groups written behind them

filled_none : (k : ℕ) → filled {A = ℕ} k 0 [] ≡ replicate k 0
unfolding filled
filled_none zero = refl
filled_none (suc k) = λ i. 0 ∷ filled_none k i

write-filled : (s k i : ℕ) (gs front : List ℕ) → length front ≡ s + i → length gs ≤ k → write_rows (put_number s) gs i (front ++ replicate k 0) ≡ front ++ filled k 0 gs
unfolding write_rows put_number filled
write-filled s k i [] front e l = ap (λ (z : List ℕ). front ++ z) (sym (filled_none k))
write-filled s zero i (x ∷ gs) front e l = absurd (omega arith)
write-filled s (suc k) i (x ∷ gs) front e l =
    let more : length (front ++ (0 ∷ [])) ≡ s + suc i = omega (arith, length-append front (0 ∷ [])) in
    let rest : write_rows (put_number s) gs (suc i) (front ++ (0 ∷ replicate k 0)) ≡ front ++ (0 ∷ filled k 0 gs) =
    ap (write_rows (put_number s) gs (suc i)) (sym (append_assoc front (0 ∷ []) (replicate k 0)))
    ∙ (write-filled s k (suc i) gs (front ++ (0 ∷ [])) more (omega arith) ∙ append_assoc front (0 ∷ []) (filled k 0 gs)) in
    ap (λ (z : List ℕ). set z (s + i) x) rest ∙ set_at front 0 (filled k 0 gs) x (s + i) e

rising : (n k : ℕ) → RisesFrom k (numbers_from k n)
unfolding rows
rising zero k = tt
rising (suc n) k = (omega arith, rising n (suc k))

module _ (u : FirstTables) (eight : length u.counts ≡ owners_cell) (few : get_or u.counts count_ties 0 ≤ tie_limit) where
  abbrev pub listed : List ℕ
  listed = rows (cell_of u.counts (get_or u.counts count_ties 0)) counts_length 0

  pub listed-count : get_or listed count_ties 0 ≡ get_or u.counts count_ties 0
  listed-count = rows-get_d (cell_of u.counts (get_or u.counts count_ties 0)) counts_length 0 count_ties 0 (omega arith) ∙ sym (cell-count u.counts (get_or u.counts count_ties 0) count_ties (omega arith))

  listed-numbers : numbers_in listed (get_or u.counts count_ties 0) ≡ numbers_from 0 (get_or u.counts count_ties 0)
  unfolding number_at
  listed-numbers = rows-cong (number_at tie_numbers_cell listed) (λ i. i) (get_or u.counts count_ties 0) 0 (λ i _ l.
      let e : tie_numbers_cell + i - tie_numbers_cell ≡ i = omega arith in
      let z : 0 + (tie_numbers_cell + i) ≡ tie_numbers_cell + i = omega arith in
      rows-get_d (cell_of u.counts (get_or u.counts count_ties 0)) counts_length 0 (tie_numbers_cell + i) 0 (omega arith)
      ∙ (ap (cell_of u.counts (get_or u.counts count_ties 0)) z
      ∙ (sym (cell-tie u.counts (get_or u.counts count_ties 0) (tie_numbers_cell + i) (omega arith) (omega arith)) ∙ e)))

  -- where the ties fit, what is written is what the definition carries
  pub carried-counts : ties_fit u.ties (get_or u.counts count_ties 0) ≡ true → regrouped listed u.ties (get_or listed count_ties 0) ≡ (carry u).counts
  unfolding put_groups
  carried-counts fit =
      let n : ℕ = get_or u.counts count_ties 0 in
      let gs : List ℕ = groups_of (ties_of u) (numbers_from 0 n) in
      let cell : ℕ → ℕ = cell_of u.counts n in
      let many : length gs ≡ n = groups-length (ties_of u) (numbers_from 0 n) ∙ rows-length (tie_at u.ties) n 0 in
      let turn : RisesFrom 0 (numbers_in listed n) = subst (RisesFrom 0) (sym listed-numbers) (rising n 0) in
      let front : listed ≡ rows cell groups_cell 0 ++ replicate tie_limit 0 = rows_both cell groups_cell tie_limit 0 ∙ ap (λ (z : List ℕ). rows cell groups_cell 0 ++ z) (the-zeros u.counts n eight tie_limit groups_cell (omega arith)) in
      ap (regrouped listed u.ties) listed-count
      ∙ (regrouped-is listed u.ties n turn fit
      ∙ ((λ i. write_rows (put_number groups_cell) (groups_of (ties_of u) (listed-numbers i)) 0 (front i))
      ∙ (write-filled groups_cell tie_limit 0 gs (rows cell groups_cell 0) (rows-length cell groups_cell 0) (omega (arith, many, few))
      ∙ (ap (λ (z : List ℕ). z ++ filled tie_limit 0 gs) (before-groups u.counts n eight)
      ∙ five u.counts (replicate object_limit 1) (numbers_from 0 tie_limit) (numbers_from n subtype_limit) no_trace (filled tie_limit 0 gs)))))

  -- where they don't, nothing is
  pub unfit-counts : ties_fit u.ties (get_or u.counts count_ties 0) ≡ false → regrouped listed u.ties (get_or listed count_ties 0) ≡ listed
  unfolding regrouped
  unfit-counts e = ap (regrouped listed u.ties) listed-count ∙ rw (e, regrouped) refl
