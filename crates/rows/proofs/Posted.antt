-- Posting: when a constraint is there already, and what is written where one is added.
use mathlib.Core.Path.{◌≡◌, refl, ap, ◌∙◌}
use mathlib.Core.Bool.{Bool, true, false}
use mathlib.Core.List.{List, [], ◌∷◌, ◌++◌}
use Prim.Native.Nat.{ℕ, zero, suc, ◌+◌, ◌-◌, ◌≤◌, ◌<◌}
use native.Mathlib.Omega.{arith}
use lib.ListN.{length}
use Rattle.definition.specs.Lists.{any, rows, write_rows}
use Rattle.definition.specs.Constraints.{Subtype}
use Rattle.definition.specs.Loading.{subtype_is, subtype_of, new_subtypes}
use Rattle.definition.specs.Verifier.{Note}
use Rattle.definition.specs.Tables.{subtype_at, put_subtype, put_three}
use Rattle.rows.specs.Posting.{note, new_subtypes_in, subtypes_after}

-- Looked at from the last row on

pub any_last : {A : Type 0} (f : A → Bool) (g : ℕ → A) (k i : ℕ) → any f (rows g (suc k) i) ≡ (elim (any f (rows g k i)) as (λ _. Bool) [ true ↦ true | false ↦ f (g (i + k)) ])
unfolding any rows
any_last f g zero i = let z : i + 0 ≡ i = omega arith in rw z (go (f (g i)))
  where
    go : (b : Bool) → (elim b as (λ _. Bool) [ true ↦ true | false ↦ false ]) ≡ b
    go true = refl
    go false = refl
any_last f g (suc k) i = go (f (g i)) (any_last f g k (suc i))
  where
    go : (b : Bool) → any f (rows g (suc k) (suc i)) ≡ (elim (any f (rows g k (suc i))) as (λ _. Bool) [ true ↦ true | false ↦ f (g (suc i + k)) ])
        → ◌≡◌ {A = Bool} (elim b as (λ _. Bool) [ true ↦ true | false ↦ any f (rows g (suc k) (suc i)) ]) (elim (elim b as (λ _. Bool) [ true ↦ true | false ↦ any f (rows g k (suc i)) ]) as (λ _. Bool) [ true ↦ true | false ↦ f (g (i + suc k)) ])
    go true h = refl
    go false h = let z : suc i + k ≡ i + suc k = omega arith in h ∙ ap (λ (x : ℕ). elim (any f (rows g k (suc i))) as (λ _. Bool) [ true ↦ true | false ↦ f (g x) ]) z

pub any-last-hit : {A : Type 0} (f : A → Bool) (g : ℕ → A) (j i : ℕ) → 0 < j → i ≡ j - 1 → f (g i) ≡ true → any f (rows g j 0) ≡ true
any-last-hit f g zero i l e h = absurd (omega arith)
any-last-hit f g (suc k) i l e h = let z : 0 + k ≡ i = omega arith in any_last f g k 0 ∙ (ap (λ (x : Bool). elim (any f (rows g k 0)) as (λ _. Bool) [ true ↦ true | false ↦ x ]) (ap (λ (x : ℕ). f (g x)) z ∙ h) ∙ go (any f (rows g k 0)))
  where
    go : (b : Bool) → ◌≡◌ {A = Bool} (elim b as (λ _. Bool) [ true ↦ true | false ↦ true ]) true
    go true = refl
    go false = refl

pub any-last-on : {A : Type 0} (f : A → Bool) (g : ℕ → A) (j i : ℕ) → 0 < j → i ≡ j - 1 → f (g i) ≡ false → any f (rows g j 0) ≡ any f (rows g i 0)
any-last-on f g zero i l e h = absurd (omega arith)
any-last-on f g (suc k) i l e h = let z : 0 + k ≡ i = omega arith in let y : k ≡ i = omega arith in any_last f g k 0 ∙ (ap (λ (x : Bool). elim (any f (rows g k 0)) as (λ _. Bool) [ true ↦ true | false ↦ x ]) (ap (λ (x : ℕ). f (g x)) z ∙ h) ∙ (go (any f (rows g k 0)) ∙ ap (λ (x : ℕ). any f (rows g x 0)) y))
  where
    go : (b : Bool) → (elim b as (λ _. Bool) [ true ↦ true | false ↦ false ]) ≡ b
    go true = refl
    go false = refl

pub any-nothing : {A : Type 0} (f : A → Bool) (g : ℕ → A) (i : ℕ) → i ≤ 0 → any f (rows g i 0) ≡ false
unfolding any rows
any-nothing f g zero l = refl
any-nothing f g (suc k) l = absurd (omega arith)

-- A subtype constraint

module _ (ss : List Subtype) (l : ℕ) (n : Note) (ns : List Note) where
  pub note-there : any (subtype_is l n) ss ≡ true → new_subtypes ss l (n ∷ ns) ≡ new_subtypes ss l ns
  unfolding new_subtypes
  note-there e = rw (e, new_subtypes) refl

  pub note-new : any (subtype_is l n) ss ≡ false → new_subtypes ss l (n ∷ ns) ≡ subtype_of l n ∷ new_subtypes (ss ++ (subtype_of l n ∷ [])) l ns
  unfolding new_subtypes
  note-new e = rw (e, new_subtypes) refl

module _ (t : List ℕ) (c l a b r : ℕ) where
  abbrev one : List Note
  one = note a b ∷ []

  pub subtype-there : any (subtype_is l (note a b)) (rows (subtype_at t) c 0) ≡ true → r ≡ c
      → (r ≡ c + length (new_subtypes_in t c l one)) × (t ≡ subtypes_after t c (new_subtypes_in t c l one))
  unfolding new_subtypes_in new_subtypes subtypes_after write_rows
  subtype-there e q = rw (note-there (rows (subtype_at t) c 0) l (note a b) [] e) (omega arith, refl)

  pub subtype-new : (u : List ℕ) → any (subtype_is l (note a b)) (rows (subtype_at t) c 0) ≡ false → r ≡ c → u ≡ put_three t c l a b
      → (r + 1 ≡ c + length (new_subtypes_in t c l one)) × (u ≡ subtypes_after t c (new_subtypes_in t c l one))
  unfolding new_subtypes_in new_subtypes subtypes_after write_rows put_subtype
  subtype-new u e q w = rw (note-new (rows (subtype_at t) c 0) l (note a b) [] e) (omega arith, w)
