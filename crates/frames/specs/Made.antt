-- How many objects a task made, read off the owners of object rows, and whether it has used its share. The laws are that these are the machine's: `made-by-is` and
-- `share-used-is`.
use Rattle.std.proofs.Math.Path.{◌≡◌, refl, sym}
use Rattle.std.proofs.Common.{ap, ◌∙◌}
use Rattle.std.specs.Prelude.{Bool, List, ◌∷◌, ◌≢◌, eqb, leb}
use Rattle.std.proofs.Math.Bool.{true, false}
use Prim.Native.Nat.{ℕ, zero, suc, ◌+◌, ◌-◌, ◌<◌, ◌≤◌}
use native.Mathlib.Omega.{arith}
use Rattle.std.proofs.Math.ListN.{get_or, get_or-eq_default}
use Rattle.std.proofs.Math.Dec.{eqb-suc-suc}
use borrow.Author.Tests.{eq-eqb, ne_eqb}
use Rattle.definition.specs.Numbers.{count_objects, owners_cell, share_limit}
use Rattle.definition.specs.Lists.{rows}
use Rattle.definition.specs.Classes.{Base}
use Rattle.definition.specs.Machine.{Objects, made_by, share_used}
use Rattle.definition.specs.Tables.{Tables, object_at, owned_by, owner_at, object_row_at, objects_of}
use Rattle.cells.specs.Held.{Held}

-- how many of k rows from row o on have that owner
unfoldable pub owned_in : List ℕ → ℕ → ℕ → ℕ → ℕ
owned_in N w zero o = 0
owned_in N w (suc k) o = elim (eqb (owner_at N o) w) [ true ↦ suc (owned_in N w k (suc o)) | false ↦ owned_in N w k (suc o) ]

-- how many objects task j made
unfoldable pub made_in : List ℕ → ℕ → ℕ
made_in N j = owned_in N (suc j) (get_or N count_objects 0) 0

-- task j, which made m objects, has used its share: the quote has none
unfoldable pub used_share : ℕ → ℕ → Bool
used_share zero m = false
used_share (suc j) m = leb share_limit m

-- One row at a time

module _ (N : List ℕ) (w n o : ℕ) where
  pub owned-one : o < n → owner_at N o ≡ w → owned_in N w (n - o) o ≡ suc (owned_in N w (n - (o + 1)) (o + 1))
  unfolding owned_in
  owned-one l e =
      let z : n - o ≡ suc (n - (o + 1)) = omega arith in
      let s : o + 1 ≡ suc o = omega arith in
      rw (z, eq-eqb (owner_at N o) w e, owned_in, s)

  pub owned-other : o < n → owner_at N o ≢ w → owned_in N w (n - o) o ≡ owned_in N w (n - (o + 1)) (o + 1)
  unfolding owned_in
  owned-other l e =
      let z : n - o ≡ suc (n - (o + 1)) = omega arith in
      let s : o + 1 ≡ suc o = omega arith in
      rw (z, ne_eqb (owner_at N o) w e, owned_in, s)

  pub owned-end : n ≤ o → owned_in N w (n - o) o ≡ 0
  unfolding owned_in
  owned-end l = let z : n - o ≡ 0 = omega arith in rw z

-- Rows that the table doesn't hold have no owner

module _ (N : List ℕ) (j : ℕ) where
  owned-none : (k o : ℕ) → ((i : ℕ) → i < k → owner_at N (o + i) ≡ 0) → owned_in N (suc j) k o ≡ 0
  unfolding owned_in
  owned-none zero o h = refl
  owned-none (suc k) o h =
      let z : o + 0 ≡ o = omega arith in
      let e : owner_at N o ≡ 0 = rw z at (h 0 (omega arith)) in
      rw (ne_eqb (owner_at N o) (suc j) (λ q. omega (arith, e, q)), owned_in)
      (owned-none k (suc o) (λ i l. (let s : o + suc i ≡ suc o + i = omega arith in rw s at (h (suc i) (omega arith)))))

  owned-both : (m k o : ℕ) → owned_in N (suc j) (m + k) o ≡ owned_in N (suc j) m o + owned_in N (suc j) k (o + m)
  unfolding owned_in
  owned-both zero k o = let a : 0 + k ≡ k = omega arith in let b : o + 0 ≡ o = omega arith in rw (a, b) (let z = owned_in N (suc j) k o in let e : z ≡ 0 + z = omega arith in e)
  owned-both (suc m) k o = let a : suc m + k ≡ suc (m + k) = omega arith in rw a (go (eqb (owner_at N o) (suc j)) (owned-both m k (suc o)))
    where
      go : (b : Bool) → owned_in N (suc j) (m + k) (suc o) ≡ owned_in N (suc j) m (suc o) + owned_in N (suc j) k (suc o + m)
          → (elim b as (λ _. ℕ) [ true ↦ suc (owned_in N (suc j) (m + k) (suc o)) | false ↦ owned_in N (suc j) (m + k) (suc o) ])
          ≡ (elim b as (λ _. ℕ) [ true ↦ suc (owned_in N (suc j) m (suc o)) | false ↦ owned_in N (suc j) m (suc o) ]) + owned_in N (suc j) k (o + suc m)
      go true h = let b : o + suc m ≡ suc o + m = omega arith in rw b (omega (arith, h))
      go false h = let b : o + suc m ≡ suc o + m = omega arith in rw b h

  pub held-made : (m : ℕ) → Held N owners_cell (get_or N count_objects 0) m → owned_in N (suc j) m 0 ≡ made_in N j
  unfolding made_in owner_at
  held-made m h =
      let n = get_or N count_objects 0 in
      let z : n ≡ m + (n - m) = omega (arith, h.few) in
      let rest : owned_in N (suc j) (n - m) (0 + m) ≡ 0 = owned-none (n - m) (0 + m) (λ i l. get_or-eq_default N 0 (h.past (0 + m + i) (omega arith) (omega arith))) in
      sym (ap (λ (k : ℕ). owned_in N (suc j) k 0) z ∙ (owned-both m (n - m) 0 ∙ omega (arith, rest)))

-- The rows of objects

module _ (b : Base) (N O : List ℕ) (j : ℕ) where
  owned-rows : (k o : ℕ) → owned_in N (suc j) k o ≡ made_by j (rows (object_row_at b N O) k o)
  unfolding owned_in rows object_row_at made_by
  owned-rows zero o = refl
  owned-rows (suc k) o = go (owned_in N (suc j) k (suc o)) (owned-rows k (suc o)) (owner_at N o)
    where
      go : (n : ℕ) → n ≡ made_by j (rows (object_row_at b N O) k (suc o)) → (w : ℕ)
          → ◌≡◌ {A = ℕ} (elim (eqb w (suc j)) as (λ _. ℕ) [ true ↦ suc n | false ↦ n ]) (made_by j (owned_by w (object_at b O o) ∷ rows (object_row_at b N O) k (suc o)))
      go n h zero = unfold owned_by in rw (ne_eqb 0 (suc j) (λ e. omega arith)) h
      go n h (suc i) = unfold owned_by in rw (eqb-suc-suc i j) (λ t. elim (eqb i j) as (λ _. ℕ) [ true ↦ suc (h t) | false ↦ h t ])

pub made-by-is : (b : Base) (t : Tables) (j : ℕ) → made_in t.counts j ≡ made_by j (objects_of b t)
unfolding made_in objects_of
made-by-is b t j = owned-rows b t.counts t.objects j (get_or t.counts count_objects 0) 0

-- The share: the number is asked of other tasks than the quote alone
pub share-used-is : (j m : ℕ) (os : Objects) → (j ≢ 0 → m ≡ made_by j os) → used_share j m ≡ share_used j os
unfolding used_share share_used
share-used-is zero m os h = refl
share-used-is (suc j) m os h = rw (h (λ e. omega arith))
