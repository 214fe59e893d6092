-- Whether an object's number is used, and the lowest that isn't, read off the owners of object rows. The laws are that these are the machine's: `used-there` and
-- `used-none`, `unused-is` and `unused-on`.
use Rattle.std.proofs.Math.Path.{◌≡◌, refl, sym}
use Rattle.std.proofs.Common.{◌∙◌, get_or-set_other}
use Rattle.std.specs.Prelude.{Bool, not, List, ◌∷◌, ◌≢◌, ◌⊎◌, set, eqb}
use Rattle.std.proofs.Math.Bool.{true, false}
use Rattle.std.proofs.lemmas.Bool.{false≢true}
use Rattle.std.proofs.Math.Option.{none, some, none-ne-some}
use Rattle.std.proofs.Math.Logic.{inl, inr}
use Prim.Native.Nat.{ℕ, zero, suc, ◌+◌, ◌-◌, ◌<◌, ◌≤◌}
use native.Mathlib.Omega.{arith}
use Rattle.std.proofs.Math.ListN.{get_or}
use Rattle.std.proofs.Math.Dec.{eqb-suc-zero, ltb}
use borrow.Author.Tests.{eqb-true, eqb-false, ne_eqb, ltb-true, ltb-false, not-true, not-false}
use Rattle.definition.specs.Numbers.{count_objects}
use Rattle.definition.specs.Lists.{rows}
use Rattle.definition.specs.Classes.{Base}
use Rattle.definition.specs.Instructions.{pick}
use Rattle.definition.specs.Machine.{existing, Exists, unused}
use Rattle.definition.specs.Tables.{Tables, object_at, owned_by, owner_at, object_row_at, objects_of}
use Rattle.layout.specs.OwnedRows.{SameOwners, owners-set}
use Rattle.layout.specs.View.{count_at, object-there, object-past, object-free}

-- number o is used: it is below the object count and its row has an owner
unfoldable pub is_used : List ℕ → ℕ → Bool
is_used N o = pick (ltb o (get_or N count_objects 0)) (not (eqb (owner_at N o) 0)) false

-- the first of k rows from row o on that has no owner, or the row behind them
unfoldable pub ownerless : List ℕ → ℕ → ℕ → ℕ
ownerless N zero o = o
ownerless N (suc k) o = elim (eqb (owner_at N o) 0) [ true ↦ o | false ↦ ownerless N k (suc o) ]

-- the lowest row from row o on that is free or past the object count
unfoldable pub unused_from : List ℕ → ℕ → ℕ
unused_from N o = ownerless N (get_or N count_objects 0 - o) o

-- A used number is an object's

module _ (N : List ℕ) (o : ℕ) where
  pub used-row : is_used N o ≡ true → (o < get_or N 5 0) × (0 < owner_at N o)
  unfolding is_used pick
  used-row h = go (ltb o (get_or N 5 0)) refl h
    where
      go : (u : Bool) → ltb o (get_or N 5 0) ≡ u → pick u (not (eqb (owner_at N o) 0)) false ≡ true → (o < get_or N 5 0) × (0 < owner_at N o)
      go true e q = (ltb-true o (get_or N 5 0) e, omega (arith, eqb-false (owner_at N o) 0 (not-true (eqb (owner_at N o) 0) q)))
      go false e q = absurd (false≢true q)

  unused-row : is_used N o ≡ false → (get_or N 5 0 ≤ o) ⊎ (owner_at N o ≡ 0)
  unfolding is_used pick
  unused-row h = go (ltb o (get_or N 5 0)) refl h
    where
      go : (u : Bool) → ltb o (get_or N 5 0) ≡ u → pick u (not (eqb (owner_at N o) 0)) false ≡ false → (get_or N 5 0 ≤ o) ⊎ (owner_at N o ≡ 0)
      go true e q = inr (eqb-true (owner_at N o) 0 (not-false (eqb (owner_at N o) 0) q))
      go false e q = inl (ltb-false o (get_or N 5 0) e)

module _ (b : Base) (t : Tables) (o : ℕ) where
  pub used-there : is_used t.counts o ≡ true → existing (objects_of b t) o ≡ some (object_at b t.objects o)
  used-there h = let r = used-row t.counts o h in object-there t b o r.0 r.1

  pub used-none : is_used t.counts o ≡ false → existing (objects_of b t) o ≡ none
  used-none h = elim (unused-row t.counts o h) [ inl l ↦ object-past t b o l | inr e ↦ object-free t b o e ]

-- One row at a time

module _ (N : List ℕ) (n o : ℕ) where
  pub ownerless-here : o < n → owner_at N o ≡ 0 → ownerless N (n - o) o ≡ o
  unfolding ownerless
  ownerless-here l e = let z : n - o ≡ suc (n - (o + 1)) = omega arith in rw (z, e, ownerless)

  pub ownerless-on : o < n → owner_at N o ≢ 0 → ownerless N (n - o) o ≡ ownerless N (n - (o + 1)) (o + 1)
  unfolding ownerless
  ownerless-on l e =
      let z : n - o ≡ suc (n - (o + 1)) = omega arith in
      let s : o + 1 ≡ suc o = omega arith in
      rw (z, ne_eqb (owner_at N o) 0 e, ownerless, s)

  pub ownerless-end : n ≤ o → ownerless N (n - o) o ≡ o
  unfolding ownerless
  ownerless-end l = let z : n - o ≡ 0 = omega arith in rw z

-- owned rows are passed over
ownerless-past : (N : List ℕ) (m k o : ℕ) → ((i : ℕ) → i < m → owner_at N (o + i) ≢ 0) → ownerless N (m + k) o ≡ ownerless N k (o + m)
unfolding ownerless
ownerless-past N zero k o h = let a : 0 + k ≡ k = omega arith in let b : o + 0 ≡ o = omega arith in rw (a, b)
ownerless-past N (suc m) k o h =
    let a : suc m + k ≡ suc (m + k) = omega arith in
    let b : o + suc m ≡ suc o + m = omega arith in
    let z : o + 0 ≡ o = omega arith in
    let e : owner_at N o ≢ 0 = rw z at (h 0 (omega arith)) in
    rw (a, ne_eqb (owner_at N o) 0 e, ownerless, b)
    (ownerless-past N m k (suc o) (λ i l. (let s : o + suc i ≡ suc o + i = omega arith in rw s at (h (suc i) (omega arith)))))

-- The rows of objects: the lowest number unused

module _ (b : Base) (N O : List ℕ) where
  ownerless-rows : (k o : ℕ) → ownerless N k o ≡ o + unused (rows (object_row_at b N O) k o)
  unfolding ownerless rows object_row_at unused
  ownerless-rows zero o = omega arith
  ownerless-rows (suc k) o = go (ownerless-rows k (suc o)) (owner_at N o)
    where
      go : ownerless N k (suc o) ≡ suc o + unused (rows (object_row_at b N O) k (suc o)) → (w : ℕ) → ◌≡◌ {A = ℕ} (elim (eqb w 0) as (λ _. ℕ) [ true ↦ o | false ↦ ownerless N k (suc o) ])
          (o + unused (owned_by w (object_at b O o) ∷ rows (object_row_at b N O) k (suc o)))
      go h zero = unfold owned_by in omega arith
      go h (suc j) = unfold owned_by in rw (eqb-suc-zero j) (h ∙ omega arith)

module _ (b : Base) (t : Tables) where
  pub unused-is : unused_from t.counts 0 ≡ unused (objects_of b t)
  unfolding unused_from objects_of
  unused-is =
      let z : count_at t 5 - 0 ≡ count_at t 5 = omega arith in
      rw z (ownerless-rows b t.counts t.objects (count_at t 5) 0 ∙ omega arith)

  -- an object that exists has a row, and its row has an owner
  exists-row : (o : ℕ) → Exists (objects_of b t) o → (o < count_at t 5) × (0 < owner_at t.counts o)
  exists-row o h = used-row t.counts o (go (is_used t.counts o) refl)
    where
      go : (u : Bool) → is_used t.counts o ≡ u → is_used t.counts o ≡ true
      go true e = e
      go false e = absurd (none-ne-some h.0 (sym (used-none b t o e) ∙ h.1))

  -- where every row below is in use, the search may begin there
  pub unused-on : (from : ℕ) → ((o : ℕ) → o < from → Exists (objects_of b t) o) → unused_from t.counts from ≡ unused (objects_of b t)
  unfolding unused_from
  unused-on from h = sym whole ∙ unused-is
    where
      few : (from : ℕ) → ((o : ℕ) → o < from → Exists (objects_of b t) o) → from ≤ count_at t 5
      few zero g = omega arith
      few (suc o) g = (exists-row o (g o (omega arith))).0

      whole : ownerless t.counts (count_at t 5 - 0) 0 ≡ ownerless t.counts (count_at t 5 - from) from
      whole =
          let l : from ≤ count_at t 5 = few from h in
          let z : count_at t 5 - 0 ≡ from + (count_at t 5 - from) = omega arith in
          let y : 0 + from ≡ from = omega arith in
          rw z ((ownerless-past t.counts from (count_at t 5 - from) 0 (λ i g. (let x : 0 + i ≡ i = omega arith in rw x (λ e. omega (arith, (exists-row i (h i g)).1, e))))) ∙ rw y)

-- a count other than the objects' doesn't matter

ownerless-same : (N M : List ℕ) → SameOwners N M → (k o : ℕ) → ownerless M k o ≡ ownerless N k o
unfolding ownerless
ownerless-same N M s zero o = refl
ownerless-same N M s (suc k) o = λ i. elim (eqb (s o i) 0) as (λ _. ℕ) [ true ↦ o | false ↦ ownerless-same N M s k (suc o) i ]

pub used-set : (N : List ℕ) (j x o : ℕ) → j < 8 → j ≢ 5 → is_used (set N j x) o ≡ is_used N o
unfolding is_used
used-set N j x o l n = rw (get_or-set_other N j 5 x 0 (λ e. n (sym e)), owners-set N j x l o)

pub unused-set : (N : List ℕ) (j x o : ℕ) → j < 8 → j ≢ 5 → unused_from (set N j x) o ≡ unused_from N o
unfolding unused_from
unused-set N j x o l n = rw (get_or-set_other N j 5 x 0 (λ e. n (sym e))) (ownerless-same N (set N j x) (owners-set N j x l) (get_or N 5 0 - o) o)
