-- What is tested and written is the definition's, where numbers rise, as those do that stand in turn.
use Rattle.std.specs.Prelude.{◌≡◌, true, ◌&&◌, ◌⊎◌, ℕ, zero, suc, ◌+◌, ◌<◌, ◌≤◌, get_or}
use Rattle.std.proofs.Common.{ap, subst, inl, inr, eq-or-lt_of_le, arith}
use mathlib.Core.List.{List}
use Rattle.definition.specs.Numbers.{count_ties, tie_numbers_cell, groups_cell}
use Rattle.definition.specs.Lists.{rows, same_list, write_rows}
use Rattle.definition.specs.Tables.{Tables, number_at, put_number, put_groups, view, view_over}
use Rattle.definition.specs.Groups.{groups_of}
use Rattle.definition.specs.Broken.{grouped}
use Rattle.layout.specs.InTurn.{RisesFrom}
use Rattle.groups.specs.Lowest.{ties_at}
use Rattle.groups.specs.Laws.{Rising, groups_by, numbers_in, groups-by}
use Rattle.groups.specs.Numbered.{ties_fit, groups_fit, regrouped}

-- rows that rise from k on: each is k or more, and the later one of two is no lower

at_least : (f : ℕ → ℕ) (n i k : ℕ) → RisesFrom k (rows f n i) → (b : ℕ) → i ≤ b → b < i + n → k ≤ f b
unfolding rows
at_least f zero i k r b l h = absurd (omega arith)
at_least f (suc n) i k r b l h = go (eq-or-lt_of_le l) (λ m. at_least f n (suc i) (suc (f i)) r.1 b m (omega arith))
  where
    go : (i ≡ b) ⊎ (i < b) → (i < b → suc (f i) ≤ f b) → k ≤ f b
    go (inl e) g = subst (λ (x : ℕ). k ≤ f x) e r.0
    go (inr m) g = omega (arith, r.0, g m)

rises : (f : ℕ → ℕ) (n i k : ℕ) → RisesFrom k (rows f n i) → (a b : ℕ) → i ≤ a → a ≤ b → b < i + n → f a ≤ f b
unfolding rows
rises f zero i k r a b l m h = absurd (omega arith)
rises f (suc n) i k r a b l m h = go (eq-or-lt_of_le l) (eq-or-lt_of_le m) (λ o. rises f n (suc i) (suc (f i)) r.1 a b o m (omega arith)) (λ o. at_least f n (suc i) (suc (f i)) r.1 b o (omega arith))
  where
    go : (i ≡ a) ⊎ (i < a) → (a ≡ b) ⊎ (a < b) → (i < a → f a ≤ f b) → (i < b → suc (f i) ≤ f b) → f a ≤ f b
    go (inr o) q g w = g o
    go (inl e) (inl d) g w = subst (λ (x : ℕ). f a ≤ f x) d (omega arith)
    go (inl e) (inr d) g w = subst (λ (x : ℕ). f x ≤ f b) e (omega (arith, w (omega arith)))

pub rows-rising : (f : ℕ → ℕ) (n k : ℕ) → RisesFrom k (rows f n 0) → Rising f n
rows-rising f n k r a b l h = rises f n 0 k r a b (omega arith) l (omega arith)

-- on rows
module _ (counts ties : List ℕ) (n : ℕ) (in_turn : RisesFrom 0 (numbers_in counts n)) where
  by-numbers : groups_by counts ties n ≡ groups_of (ties_at ties n) (numbers_in counts n)
  by-numbers = groups-by counts ties n (rows-rising (number_at tie_numbers_cell counts) n 0 in_turn)

  -- a counts table with the groups of ties that fit is what the definition puts
  pub regrouped-is : ties_fit ties n ≡ true → regrouped counts ties n ≡ put_groups (ties_at ties n) (numbers_in counts n) counts
  unfolding regrouped put_groups
  regrouped-is e = rw (e, regrouped) (ap (λ (gs : List ℕ). write_rows (put_number groups_cell) gs 0 counts) by-numbers)

-- on tables: the test is that of word 1
pub fit-grouped : (t : Tables) → RisesFrom 0 (numbers_in t.counts (get_or t.counts count_ties 0))
    → groups_fit t.counts t.ties (get_or t.counts count_ties 0) ≡ (ties_fit t.ties (get_or t.counts count_ties 0) && grouped t)
unfolding groups_fit grouped view view_over
fit-grouped t r = ap (λ (gs : List ℕ). ties_fit t.ties n && same_list (rows (number_at groups_cell t.counts) n 0) gs) (by-numbers t.counts t.ties n r)
  where
    n : ℕ
    n = get_or t.counts count_ties 0
