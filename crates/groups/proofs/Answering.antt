-- What is answered for rows: none, too many for the table, rows that don't fit, and their groups.
use mathlib.Core.Path.{◌≡◌, refl, sym, ap, subst, ◌∙◌}
use mathlib.Core.Bool.{Bool, true, false, ◌&&◌, false≢true}
use mathlib.Core.List.{List, [], ◌∷◌, ◌++◌}
use mathlib.Core.Logic.{◌⊎◌, inl, inr}
use Prim.Native.Nat.{ℕ, zero, suc, ◌+◌, ◌-◌, ◌*◌, ◌<◌, ◌≤◌}
use native.Mathlib.Nat.{eq-or-lt_of_le}
use native.Mathlib.Omega.{arith}
use lib.ListN.{length, get_or, drop, replicate}
use lib.Dec.{leb}
use borrow.Author.Tests.{le-leb}
use Rattle.std.proofs.lemmas.List.{drop-replicate}
use Rattle.std.proofs.lemmas.Grind.{common_steps}
use Rattle.definition.specs.Lists.{rows, all}
use Rattle.definition.specs.Constraints.{Tie}
use Rattle.definition.specs.Tables.{tie_at}
use Rattle.layout.specs.Places.{rows-cong}
use Rattle.definition.specs.Groups.{groups_of}
use Rattle.definition.specs.Broken.{tie_fits}
use Rattle.groups.specs.Claims.{Loaders}
use Rattle.groups.specs.Lowest.{up_to, ties_at, RowGroups}
use Rattle.groups.proofs.Claiming.{fits-loaders}

-- a table with no more than zeros behind the cells of another has the cells of that
padded : (n i : ℕ) (ties : List ℕ) → get_or (ties ++ replicate n 0) i 0 ≡ get_or ties i 0
padded n i [] = grind (arith, common_steps)
padded n zero (t ∷ ts) = refl
padded n (suc i) (t ∷ ts) = padded n i ts

-- a test that all rows pass is passed by each
all-at : {A : Type 0} (f : A → Bool) (g : ℕ → A) (k i j : ℕ) → all f (rows g k i) ≡ true → i ≤ j → j < i + k → f (g j) ≡ true
unfolding rows all
all-at f g zero i j e l h = absurd (omega arith)
all-at f g (suc k) i j e l h = go (f (g i)) refl e (eq-or-lt_of_le l) (λ q m. all-at f g k (suc i) j q m (omega arith))
  where
    go : (t : Bool) → f (g i) ≡ t → elim t as (λ _. Bool) [ true ↦ all f (rows g k (suc i)) | false ↦ false ] ≡ true → (i ≡ j) ⊎ (i < j) → (all f (rows g k (suc i)) ≡ true → i < j → f (g j) ≡ true) → f (g j) ≡ true
    go true q e (inl z) r = subst (λ (x : ℕ). f (g x) ≡ true) z q
    go true q e (inr m) r = r e m
    go false q e z r = absurd (false≢true e)

pub all-loaders : (ties : List ℕ) (n : ℕ) → all tie_fits (ties_at ties n) ≡ true → (i : ℕ) → i < n → Loaders ties i
all-loaders ties n e i h = fits-loaders ties i (all-at tie_fits (tie_at ties) n 0 i e (omega arith) (omega arith))

-- for as many rows as are counted

module _ (ties old : List ℕ) {m n : ℕ} (is : m ≡ n) where
  pub as-counted : {r : Bool} {new : List ℕ} → RowGroups ties m old r new → RowGroups ties n old r new
  as-counted {r} {new} a = subst (λ (x : ℕ). RowGroups ties x old r new) is a

  no_rows : (k : ℕ) → k ≡ 0 → RowGroups ties k old true old
  unfolding rows all groups_of
  no_rows k e = subst (λ (x : ℕ). RowGroups ties x old true old) (sym e) (record { fits = rw (le-leb 0 (length old) (omega arith)) refl; kept = λ q. refl; groups = λ q. refl })

  pub answer-none : m ≡ 0 → RowGroups ties n old true old
  answer-none e = as-counted (no_rows m e)

  -- those of a table with the same cells
  -- a table with the cells of the ties, and 0 where they have none
  pub answer-whole : (whole : List ℕ) → m ≤ 256 → length ties ≤ 768 → whole ≡ ties ++ drop (length ties) (replicate 768 0) → {r : Bool} {new : List ℕ} → RowGroups whole m old r new → RowGroups ties n old r new
  unfolding tie_at
  answer-whole whole few h e {r} {new} a = as-counted (record {
    fits = a.fits ∙ ap (λ (ts : List Tie). leb m (length old) && all tie_fits ts) same;
    kept = a.kept;
    groups = λ q. a.groups q ∙ ap (λ (ts : List Tie). groups_of ts (up_to m)) same;
  })
    where
      cell : (i : ℕ) → i < 768 → get_or whole i 0 ≡ get_or ties i 0
      cell i l = rw (e, drop-replicate {X = ℕ} (length ties) 768 0) (padded (768 - length ties) i ties)

      row : (i : ℕ) → i < m → tie_at whole i ≡ tie_at ties i
      row i h = rw (cell (i * 3) (omega arith), cell (i * 3 + 1) (omega arith), cell (i * 3 + 2) (omega arith)) refl

      same : ties_at whole m ≡ ties_at ties m
      same = rows-cong (tie_at whole) (tie_at ties) m 0 (λ i l h. row i (omega (arith, h)))
