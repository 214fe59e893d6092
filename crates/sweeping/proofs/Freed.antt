-- Rows freed one after the other leave the owners that a sweep puts, and are as many as it answers.
use mathlib.Core.Path.{◌≡◌, refl, sym, ap, ◌∙◌}
use mathlib.Core.Bool.{Bool, true, false, not}
use mathlib.Core.List.{List, ◌∷◌}
use Prim.Native.Nat.{ℕ, zero, suc, ◌+◌, ◌<◌, ◌≤◌}
use native.Mathlib.Omega.{arith}
use lib.ListN.{get_or, set}
use lib.Seq.{set_comm, set-get_or, get_or-set_other}
use lib.Dec.{eqb}
use Rattle.definition.specs.Chains.{has}
use Rattle.definition.specs.Classes.{Base}
use Rattle.definition.specs.Instructions.{pick}
use Rattle.definition.specs.Lists.{rows, write_rows}
use Rattle.definition.specs.Machine.{ObjectRow, free, owned, Objects}
use Rattle.definition.specs.Sweeping.{swept_from, freed_from}
use Rattle.definition.specs.Tables.{object_at, owner_of, owner_at, put_owner, object_row_at}
use Rattle.layout.specs.Places.{write_rows-first}
use Rattle.layout.specs.OwnedRows.{owner-is}
use Rattle.sweeping.specs.Marking.{dead, freed, free_rows}
use Rattle.sweeping.proofs.Laws.{dead-free, dead-used}

-- writes of owners commute, and one as it stands changes nothing

owners-apart : (t : List ℕ) (i j : ℕ) (x y : ObjectRow) → i < j → put_owner (put_owner t j y) i x ≡ put_owner (put_owner t i x) j y
unfolding put_owner
owners-apart t i j x y l = set_comm t (8 + j) (8 + i) (owner_of y) (owner_of x) (λ e. omega arith)

owner-stands : (c : List ℕ) (o v : ℕ) → owner_at c o ≡ v → set c (8 + o) v ≡ c
unfolding owner_at
owner-stands c o v e = rw (← e) (set-get_or c (8 + o) 0)

-- A turn, where the rows behind are freed as they should be: row x stays or goes

module _ (R marks : List ℕ) (k o m : ℕ) (c : List ℕ) (xs : Objects)
    (rest : (d : List ℕ) (i : ℕ) → ((j : ℕ) → o < j → owner_at d j ≡ owner_at c j) → free_rows marks k (suc o) d i
    ≡ freed (write_rows put_owner (swept_from R (suc o) xs) (suc o) d) (i + freed_from R (suc o) xs)) where
  abbrev Goal : ObjectRow → Type 0
  Goal x = free_rows marks (suc k) o c m ≡ freed (write_rows put_owner (swept_from R o (x ∷ xs)) o c) (m + freed_from R o (x ∷ xs))

  written : (x : ObjectRow) (d : List ℕ) → put_owner c o (pick (has eqb o R) x free) ≡ d
      → write_rows put_owner (swept_from R (suc o) xs) (suc o) d ≡ write_rows put_owner (swept_from R o (x ∷ xs)) o c
  unfolding swept_from
  written x d e =
      sym (write_rows-first put_owner owners-apart (pick (has eqb o R) x free) (swept_from R (suc o) xs) o c
      ∙ ap (write_rows put_owner (swept_from R (suc o) xs) (suc o)) e)

  stays : (x : ObjectRow) → dead marks c o ≡ false → put_owner c o (pick (has eqb o R) x free) ≡ c → freed_from R o (x ∷ xs) ≡ freed_from R (suc o) xs → Goal x
  unfolding free_rows
  stays x h e f = rw (h, free_rows) (rest c m (λ j l. refl) ∙ (λ i. freed (written x c e i) (m + sym f i)))

  goes : (x : ObjectRow) → dead marks c o ≡ true → put_owner c o (pick (has eqb o R) x free) ≡ set c (8 + o) 0 → freed_from R o (x ∷ xs) ≡ suc (freed_from R (suc o) xs)
      → Goal x
  unfolding free_rows
  goes x h e f =
      let s : m + 1 + freed_from R (suc o) xs ≡ m + freed_from R o (x ∷ xs) = omega (arith, f) in
      rw (h, free_rows) (rest (set c (8 + o) 0) (m + 1) apart ∙ (λ i. freed (written x (set c (8 + o) 0) e i) (s i)))
    where
      apart : (j : ℕ) → o < j → owner_at (set c (8 + o) 0) j ≡ owner_at c j
      apart j l = unfold owner_at in get_or-set_other c (8 + o) (8 + j) 0 0 (λ e. omega arith)

  -- by the row's owner and by its mark
  turn : (x : ObjectRow) → owner_at c o ≡ owner_of x → eqb (get_or marks o 0) 0 ≡ not (has eqb o R) → Goal x
  unfolding owner_of put_owner pick freed_from
  turn free e s = stays free (dead-free marks c o e) (go (has eqb o R)) refl
    where
      go : (u : Bool) → set c (8 + o) (owner_of (pick u free free)) ≡ c
      go true = owner-stands c o 0 e
      go false = owner-stands c o 0 e
  turn (owned w y) e s = go (has eqb o R) refl
    where
      used : owner_at c o ≡ 0 → ⊥
      used z = omega (arith, e, z)

      go : (u : Bool) → has eqb o R ≡ u → Goal (owned w y)
      go true q = stays (owned w y) (dead-used marks c o used ∙ (s ∙ ap not q)) (rw q (owner-stands c o (suc w) e)) (rw (q, freed_from))
      go false q = goes (owned w y) (dead-used marks c o used ∙ (s ∙ ap not q)) (rw q) (rw (q, freed_from))

-- All rows, where marks say what is in the list R of those that stay

module _ (R marks : List ℕ) (same : (o : ℕ) → eqb (get_or marks o 0) 0 ≡ not (has eqb o R)) (b : Base) (n t : List ℕ) where
  abbrev Row : ℕ → ObjectRow
  Row = object_row_at b n t

  pub rows-freed : (k o m : ℕ) (c : List ℕ) → ((j : ℕ) → o ≤ j → owner_at c j ≡ owner_at n j)
      → free_rows marks k o c m ≡ freed (write_rows put_owner (swept_from R o (rows Row k o)) o c) (m + freed_from R o (rows Row k o))
  unfolding rows free_rows swept_from freed_from write_rows
  rows-freed zero o m c h = let sum : m ≡ m + 0 = omega arith in λ i. freed c (sum i)
  rows-freed (suc k) o m c h =
      turn R marks k o m c (rows Row k (suc o)) (λ d i e. rows-freed k (suc o) i d (λ j l. e j (omega arith) ∙ h j (omega arith)))
      (Row o) (h o (omega arith) ∙ (unfold object_row_at in sym (owner-is (owner_at n o) (object_at b t o)))) (same o)
