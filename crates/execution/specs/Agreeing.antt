-- The check of the store with ties that are to be posted, on a copy of the ties and on a table of superclasses.
use Rattle.std.specs.Prelude.{◌≡◌, Bool, true, false, List, ◌++◌, get_or, ltb, min}
use Rattle.std.proofs.Math.Path.{refl, ap}
use Rattle.std.proofs.Common.{sym, ◌∙◌, arith, length-set, length-append}
use Rattle.std.proofs.Math.Option.{Option, none}
use Prim.Native.Nat.{ℕ, ◌+◌, ◌<◌, ◌≤◌}
use Rattle.std.proofs.Math.ListN.{length, set, get_or-eq_default}
use borrow.Author.Tests.{ltb-true, ltb-false, le-ltb}
use Rattle.definition.specs.Lists.{rows, write_rows, all}
use Rattle.definition.specs.Classes.{Base, super_of}
use Rattle.definition.specs.Constraints.{Tie, World, posted}
use Rattle.definition.specs.declared.Check.{Check}
use Rattle.definition.specs.Checks.{NamesOver, Names}
use Rattle.definition.specs.Broken.{tie_fits}
use Rattle.definition.specs.Tables.{tables, tie_at, put_tie}
use Rattle.layout.specs.Places.{rows-length, rows-get_d, write_rows-length}
use Rattle.layout.specs.Cells.{rows_back, rows_more, cell-rows, tie-rows}
use Rattle.layout.specs.Tests.{All, all-test, all_both}
use Rattle.layout.specs.Whole.{Between, tie-fits}
use Rattle.groups.specs.Lowest as lowest
use Rattle.constraints.specs.Agreement.{super_in, entries_in, shared_in, led_in, new_of, new_in}
use Rattle.resolution.specs.Quick.{quick_base, super-past}
use Rattle.resolution.specs.Lookups.{super_cell, cell-super}
use Rattle.access.specs.Accesses.{world_in}
use Rattle.constraints.specs.Laws.{within, Beside, beside-made, names-store}

-- The table of superclasses

module _ (N L K E : List ℕ) (few : get_or N 0 0 ≤ 64) (zs : List ℕ) (long : length zs ≡ 64) where
  abbrev B : Base
  B = quick_base N L K E

  abbrev supers : List ℕ
  supers = write_rows set (rows (super_cell B) 64 0) 0 zs

  cell : (c : ℕ) → c < 64 → get_or supers c 0 ≡ super_cell B c
  cell c h =
      let n : length (rows (super_cell B) 64 0) ≡ 64 = rows-length (super_cell B) 64 0 in
      let e : rows (λ i. get_or supers i 0) 64 0 ≡ rows (super_cell B) 64 0 = rw n at (rows_back cell-rows (rows (super_cell B) 64 0) zs (omega arith)) in
      let z : 0 + c ≡ c = omega arith in
      (rw z at (sym (rows-get_d (λ i. get_or supers i 0) 64 0 c 0 h))) ∙ (ap (λ (xs : List ℕ). get_or xs c 0) e ∙ (rw z at (rows-get_d (super_cell B) 64 0 c 0 h)))

  past : (c : ℕ) → 64 ≤ c → get_or supers c 0 ≡ 0
  past c h = get_or-eq_default supers 0 (omega (arith, write_rows-length set length-set (rows (super_cell B) 64 0) 0 zs))

  super-cell : (c : ℕ) → c < 64 → super_in supers c ≡ super_of B c
  unfolding super_in
  super-cell c h = rw (cell c h, super_in) (cell-super B c)

  super-past-end : (c : ℕ) → 64 ≤ c → super_in supers c ≡ super_of B c
  unfolding super_in
  super-past-end c h = rw (past c h, super_in, super-past N L K E c (omega arith))

  -- it says of every class what its superclass is
  pub supers-table : super_in supers ≡ super_of B
  supers-table = λ i c. each c i
    where
      each : (c : ℕ) → super_in supers c ≡ super_of B c
      each c = go (ltb c 64) refl
        where
          go : (u : Bool) → ltb c 64 ≡ u → super_in supers c ≡ super_of B c
          go true e = super-cell c (ltb-true c 64 e)
          go false e = super-past-end c (ltb-false c 64 e)

-- The ties with new rows behind them

tried : (I : List ℕ) (n : ℕ) (us : List Tie) → length I ≡ 768 → n + length us ≤ 256 → rows (tie_at (write_rows put_tie us n I)) (n + length us) 0 ≡ rows (tie_at I) n 0 ++ us
tried I n us long few =
    let xs : List Tie = rows (tie_at I) n 0 ++ us in
    let e : length xs ≡ n + length us = length-append (rows (tie_at I) n 0) us ∙ rw (rows-length (tie_at I) n 0) in
    let f : write_rows put_tie xs 0 I ≡ write_rows put_tie us n I = rows_more tie-rows I n us in
    rw (e, f) at (rows_back tie-rows xs I (omega arith))

-- groups that are made of them are right, where all lie between loaders
pub posted-beside : (I : List ℕ) (n : ℕ) (us : List Tie) (old new : List ℕ) (r : Bool) → length I ≡ 768 → n + length us ≤ 256 → length old ≡ 256 → All Between (rows (tie_at I) n 0) → All Between us
    → lowest.RowGroups (write_rows put_tie us n I) (min (n + length us) 256) old r new → Beside (write_rows put_tie us n I) new (n + length us)
posted-beside I n us old new r long few room a b made =
    beside-made (write_rows put_tie us n I) old new (n + length us) r few (omega (arith, room, few))
    (ap (all tie_fits) (tried I n us long few) ∙ all-test tie_fits Between tie-fits (rows (tie_at I) n 0 ++ us) (all_both Between (rows (tie_at I) n 0) us a b)) made

-- what the check names of the store with the ties us posted, whose groups stand in G; there is no newcomer, since the row behind the last isn't one
module _ (N L K E I S O F zs G : List ℕ) (us : List Tie) where
  abbrev after : World
  after = posted (world_in (quick_base N L K E) (tables N L K E I S O F)) us

  pub names-posted : (new : ℕ) (r : Check) → get_or N 0 0 ≤ 64 → get_or N 2 0 ≤ 256 → get_or N 4 0 ≤ 256 → length zs ≡ 64 → length I ≡ 768 → get_or N 3 0 + length us ≤ 256 → new ≡ get_or N 2 0
      → Beside (write_rows put_tie us (get_or N 3 0) I) G (get_or N 3 0 + length us)
      → NamesOver (super_in (write_rows set (rows (super_cell (quick_base N L K E)) 64 0) 0 zs)) (entries_in E (get_or N 2 0)) (shared_in (write_rows put_tie us (get_or N 3 0) I) G (get_or N 3 0 + length us))
      (led_in (write_rows put_tie us (get_or N 3 0) I) G (get_or N 3 0 + length us) S (get_or N 4 0)) (new_in E (get_or N 2 0) new) r
      → Names after none r
  unfolding quick_base new_of
  names-posted new r c e s z i n ew g h =
      let nobody : new_in E (get_or N 2 0) new ≡ none = rw (within 256 (get_or N 2 0) e, le-ltb new (get_or N 2 0) (omega arith), new_of) refl in
      names-store after (write_rows set (rows (super_cell (quick_base N L K E)) 64 0) 0 zs) E (write_rows put_tie us (get_or N 3 0) I) G S (get_or N 2 0) (get_or N 3 0 + length us) (get_or N 4 0) none r
      (λ x. ap (λ (f : ℕ → Option ℕ). f x) (supers-table N L K E c zs z)) refl (sym (tried I (get_or N 3 0) us i n)) refl e n s g (rw nobody at h)
