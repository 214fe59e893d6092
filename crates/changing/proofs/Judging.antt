-- How old tables are judged: by lengths and counts that would leave no room for their rows' numbers, by today's test of the tables that would be filled, and by versions.
use mathlib.Core.Path.{◌≡◌, refl, sym, ap, subst, ◌∙◌}
use mathlib.Core.Bool.{Bool, true, false, false≢true}
use mathlib.Core.List.{List}
use Prim.Native.Nat.{ℕ, ◌<◌, ◌≤◌}
use native.Mathlib.Omega.{arith}
use lib.ListN.{length, get_or}
use borrow.Author.Tests.{le-leb, not-false}
use Rattle.definition.specs.Numbers.{count_ties, owners_cell, tie_limit, counts_length}
use Rattle.definition.specs.Lists.{rows, all}
use Rattle.definition.specs.Tables.{Tables, tie_at, ties_of, view, view_over}
use Rattle.definition.specs.Broken.{tie_fits, sound, whole, broken}
use Rattle.definition.specs.Changeover.{with_counts}
use Rattle.definition.specs.First.Tables.{FirstTables, first_view, first_view_over}
use Rattle.definition.specs.First.Broken.{first_sound, first_whole, first_broken}
use Rattle.layout.specs.Tests.{every_true}
use Rattle.first.specs.Carries.{keeps_later}
use Rattle.first.specs.Changeover.{broken-judged, unbroken-within}
use Rattle.groups.specs.Numbered.{ties_fit, regrouped}
use Rattle.changing.specs.Cells.{cell_of}
use Rattle.changing.specs.Judged.{Judged}
use Rattle.changing.proofs.Cells.{listed, listed-count, carried-counts, unfit-counts}

-- the ties of tables that aren't broken fit, by the first document's rules and by today's
first-fit : (u : FirstTables) → first_broken u ≡ false → all tie_fits (ties_of u) ≡ true
unfolding first_broken first_whole first_sound first_view first_view_over
first-fit u h = (every_true _ (every_true _ (not-false _ h)).1.1.0).1.1.0

today-fit : (t : Tables) → broken t ≡ false → all tie_fits (ties_of t) ≡ true
unfolding broken whole sound view view_over
today-fit t h = (every_true _ (every_true _ (not-false _ h)).1.1.0).1.1.0

module _ (u : FirstTables) where
  -- what can't be of a store that isn't broken
  refused-if : (first_broken u ≡ false → ⊥) → first_broken u ≡ true
  refused-if h = go (first_broken u) refl
    where
      go : (b : Bool) → first_broken u ≡ b → first_broken u ≡ true
      go true e = e
      go false e = absurd (h e)

  pub other_length : (length u.counts ≡ owners_cell → ⊥) → first_broken u ≡ true
  other_length h = refused-if (λ e. h (unbroken-within u e).eight)

  pub many-ties : tie_limit < get_or u.counts count_ties 0 → first_broken u ≡ true
  many-ties l = refused-if (λ e. absurd (omega (arith, (unbroken-within u e).few)))

module _ (u : FirstTables) (eight : length u.counts ≡ owners_cell) (few : get_or u.counts count_ties 0 ≤ tie_limit) where
  abbrev pub given : List ℕ
  given = regrouped (listed u eight few) u.ties (get_or (listed u eight few) count_ties 0)

  abbrev fit : Bool
  fit = ties_fit u.ties (get_or u.counts count_ties 0)

  fit_is : fit ≡ all tie_fits (ties_of u)
  fit_is = rw (le-leb (get_or u.counts count_ties 0) tie_limit few) refl

  given-count : fit ≡ false → get_or given count_ties 0 ≡ get_or u.counts count_ties 0
  given-count e = ap (λ (z : List ℕ). get_or z count_ties 0) (unfit-counts u eight few e) ∙ listed-count u eight few

  -- tables whose ties don't fit pass neither test
  unfit-first : fit ≡ false → first_broken u ≡ false → ⊥
  unfit-first e h = false≢true (sym e ∙ (fit_is ∙ first-fit u h))

  unfit-today : fit ≡ false → broken (with_counts given u) ≡ false → ⊥
  unfit-today e h = false≢true (sym e ∙ (fit_is ∙ (ap (λ (n : ℕ). all tie_fits (rows (tie_at u.ties) n 0)) (sym (given-count e)) ∙ today-fit (with_counts given u) h)))

  broken-judges : broken (with_counts given u) ≡ true → first_broken u ≡ true
  broken-judges h = refused-if u (go fit refl)
    where
      go : (f : Bool) → fit ≡ f → first_broken u ≡ false → ⊥
      go false e z = unfit-first e z
      go true e z = false≢true (sym z ∙ (broken-judged u ∙ rw (ap (λ (c : List ℕ). broken (with_counts c u)) (sym (carried-counts u eight few e)) ∙ h) refl))

  module _ (h : broken (with_counts given u) ≡ false) where
    fits : fit ≡ true
    fits = go fit refl
      where
        go : (f : Bool) → fit ≡ f → fit ≡ true
        go true e = e
        go false e = absurd (unfit-today e h)

    -- versions are all that is left
    versions-judge : keeps_later u ≡ first_broken u
    versions-judge = sym (broken-judged u ∙ rw (ap (λ (c : List ℕ). broken (with_counts c u)) (sym (carried-counts u eight few fits)) ∙ h) refl)

    given-judged : keeps_later u ≡ false → Judged u given
    given-judged q = record { unbroken = sym versions-judge ∙ q; carried = carried-counts u eight few fits }

-- the same of counts that were listed for n ties, and then grouped
module _ (u : FirstTables) (eight : length u.counts ≡ owners_cell) (n : ℕ) (few : n ≤ tie_limit) (e : n ≡ get_or u.counts count_ties 0)
    (m : List ℕ) (lists : m ≡ rows (cell_of u.counts n) counts_length 0) (k : List ℕ) (groups : k ≡ regrouped m u.ties (get_or m count_ties 0)) where
  room : get_or u.counts count_ties 0 ≤ tie_limit
  room = omega arith

  is-given : k ≡ given u eight room
  is-given = groups ∙ ap (λ (z : List ℕ). regrouped z u.ties (get_or z count_ties 0)) (lists ∙ ap (λ (x : ℕ). rows (cell_of u.counts x) counts_length 0) e)

  pub told-broken : broken (with_counts k u) ≡ true → first_broken u ≡ true
  told-broken h = broken-judges u eight room (ap (λ (z : List ℕ). broken (with_counts z u)) (sym is-given) ∙ h)

  module _ (h : broken (with_counts k u) ≡ false) where
    unbroken-given : broken (with_counts (given u eight room) u) ≡ false
    unbroken-given = ap (λ (z : List ℕ). broken (with_counts z u)) (sym is-given) ∙ h

    pub told-later : keeps_later u ≡ true → first_broken u ≡ true
    told-later q = sym (versions-judge u eight room unbroken-given) ∙ q

    pub told-judged : keeps_later u ≡ false → Judged u k
    told-judged q = subst (Judged u) (sym is-given) (given-judged u eight room unbroken-given q)
