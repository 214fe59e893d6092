-- Groups written from what stands in the tables are those that the definition puts, where the tables that it leaves are not broken: their ties fit, their numbers
-- stand in turn and their groups are right.
use Rattle.std.specs.Prelude.{◌≡◌, refl, true, false, ℕ, ◌+◌, ◌≤◌, length, get_or}
use Rattle.std.proofs.Common.{sym, ◌∙◌, arith, le-leb}
use Rattle.std.proofs.Math.Path.{ap, subst}
use mathlib.Core.List.{List}
use Rattle.definition.specs.Numbers.{count_ties, tie_numbers_cell, groups_cell}
use Rattle.definition.specs.Lists.{rows, all, write_rows}
use Rattle.definition.specs.Constraints.{Tie}
use Rattle.definition.specs.Tables.{Tables, tables, number_at, put_number, put_groups, numbers_of, view, view_over}
use Rattle.definition.specs.Groups.{groups_of}
use Rattle.definition.specs.Broken.{tie_fits, broken}
use Rattle.layout.specs.Tests.{All, all-test}
use Rattle.layout.specs.Places.{rows-cong}
use Rattle.layout.specs.Whole.{Between, tie-fits}
use Rattle.layout.specs.InTurn.{RisesFrom, in-turn-words}
use Rattle.layout.specs.GroupedRows.{put_groups-length, put_groups-before, groups-back, grouped-is}
use Rattle.layout.specs.Unbroken.{unbroken}
use Rattle.groups.specs.Lowest.{ties_at}
use Rattle.groups.specs.Laws.{numbers_in}
use Rattle.groups.specs.Numbered.{ties_fit, regrouped}
use Rattle.groups.specs.Grouped.{regrouped-is}

module _ (ts : List Tie) (ns c classes kept cache ties subtypes objects frames : List ℕ) where
  abbrev after : Tables
  after = tables (put_groups ts ns c) classes kept cache ties subtypes objects frames

  abbrev n : ℕ
  n = get_or c count_ties 0

  module _ (sound : broken after ≡ false) (long : length ts ≡ get_or c count_ties 0) where
    -- counts and numbers lie before the groups
    count_same : get_or (put_groups ts ns c) count_ties 0 ≡ n
    count_same = put_groups-before ts ns c count_ties (omega arith)

    few : n ≤ 256
    few = omega (arith, (unbroken after sound).counts.ties, count_same)

    numbers-same : numbers_in (put_groups ts ns c) (get_or (put_groups ts ns c) count_ties 0) ≡ numbers_in c n
    unfolding number_at
    numbers-same =
        ap (λ (k : ℕ). numbers_in (put_groups ts ns c) k) count_same
        ∙ rows-cong (number_at tie_numbers_cell (put_groups ts ns c)) (number_at tie_numbers_cell c) n 0 (λ i l h. put_groups-before ts ns c (tie_numbers_cell + i) (omega (arith, h, few)))

    turn : RisesFrom 0 (numbers_in c n)
    unfolding view view_over
    turn = subst (λ (xs : List ℕ). RisesFrom 0 xs) numbers-same (in-turn-words (numbers_of after) (unbroken after sound).sounds.numbers).ties

    all_fit : all tie_fits (ties_at ties n) ≡ true
    unfolding view view_over
    all_fit = all-test tie_fits Between tie-fits (ties_at ties n) (subst (λ (k : ℕ). All Between (ties_at ties k)) count_same (unbroken after sound).sounds.ties)

    ties-fit : ties_fit ties n ≡ true
    ties-fit = rw (le-leb n 256 few, all_fit) refl

    same-groups : groups_of (ties_at ties n) (numbers_in c n) ≡ groups_of ts ns
    same-groups =
        (λ i. groups_of (ties_at ties (sym count_same i)) (sym numbers-same i))
        ∙ (sym (grouped-is after (unbroken after sound).groups)
        ∙ (ap (λ (k : ℕ). rows (number_at groups_cell (put_groups ts ns c)) k 0) (count_same ∙ sym long)
        ∙ groups-back ts ns c (omega (arith, long, few, put_groups-length ts ns c, (unbroken after sound).lengths.counts))))

    pub regrouped-kept : regrouped c ties (get_or c count_ties 0) ≡ put_groups ts ns c
    unfolding put_groups
    regrouped-kept = regrouped-is c ties n turn ties-fit ∙ ap (λ (gs : List ℕ). write_rows (put_number groups_cell) gs 0 c) same-groups
