-- Marks: what is marked after one more mark was set, and how many marks there are.
use mathlib.Core.Path.{◌≡◌, refl, sym, ap, ◌∙◌}
use mathlib.Core.Bool.{Bool, true, false}
use mathlib.Core.List.{List, [], ◌∷◌}
use mathlib.Core.Logic.{◌⊎◌, inl, inr}
use Prim.Native.Nat.{ℕ, zero, suc, ◌<◌, ◌≤◌}
use native.Mathlib.Omega.{arith}
use lib.ListN.{length, get_or, set, replicate, length-set, length-replicate, get_or-eq_default, get_or-replicate}
use lib.Seq.{get_or-set_same, get_or-set_other}
use lib.Dec.{eqb, ltb}
use borrow.Author.Tests.{eqb-true, eqb-false, eq-eqb, ne_eqb, ltb-true, ltb-false}
use Rattle.constraints.specs.Search.{Marked, marked, Stamped}

-- One more mark

module _ (stamp x : ℕ) (marks : List ℕ) (h : x < length marks) where
  pub new-mark : Marked stamp (set marks x stamp) x
  new-mark = get_or-set_same marks x stamp 0 h

  pub set-mark : (y : ℕ) → Marked stamp (set marks x stamp) y → Marked stamp marks y ⊎ (y ≡ x)
  set-mark y m = go (eqb y x) refl
    where
      go : (t : Bool) → eqb y x ≡ t → Marked stamp marks y ⊎ (y ≡ x)
      go true e = inr (eqb-true y x e)
      go false e = inl (sym (get_or-set_other marks x y stamp 0 (eqb-false y x e)) ∙ m)

  pub keep-mark : (y : ℕ) → Marked stamp marks y → Marked stamp (set marks x stamp) y
  keep-mark y m = go (eqb y x) refl
    where
      go : (t : Bool) → eqb y x ≡ t → Marked stamp (set marks x stamp) y
      go true e = rw (eqb-true y x e) new-mark
      go false e = get_or-set_other marks x y stamp 0 (eqb-false y x e) ∙ m

  pub stamped-set : {size : ℕ} → Stamped size stamp marks → Stamped size stamp (set marks x stamp)
  stamped-set s = record { long = length-set marks x stamp ∙ s.long; most = λ y. go y (eqb y x) refl }
    where
      go : (y : ℕ) (t : Bool) → eqb y x ≡ t → get_or (set marks x stamp) y 0 ≤ stamp
      go y true e = rw (eqb-true y x e, new-mark) (omega arith)
      go y false e = rw (get_or-set_other marks x y stamp 0 (eqb-false y x e)) (s.most y)

-- a table of zeros
pub stamped-none : (size stamp : ℕ) → Stamped size stamp (replicate size 0)
stamped-none size stamp = record { long = length-replicate {A = ℕ} size 0; most = λ x. zeros x (ltb x size) refl }
  where
    zeros : (x : ℕ) (t : Bool) → ltb x size ≡ t → get_or (replicate {A = ℕ} size 0) x 0 ≤ stamp
    zeros x true e = rw (get_or-replicate {A = ℕ} size x 0 0 (ltb-true x size e)) (omega arith)
    zeros x false e =
        rw (get_or-eq_default (replicate {A = ℕ} size 0) 0 {n = x} (omega (arith, ltb-false x size e, length-replicate {A = ℕ} size 0))) (omega arith)

pub stamped-more : {size a b : ℕ} {marks : List ℕ} → a ≤ b → Stamped size a marks → Stamped size b marks
stamped-more h s = record { long = s.long; most = λ x. omega (arith, s.most x) }

-- Counting

module _ (stamp : ℕ) where
  pub marked-le : (l : List ℕ) → marked stamp l ≤ length l
  unfolding marked
  marked-le [] = omega arith
  marked-le (x ∷ xs) = go (eqb x stamp) (marked-le xs)
    where
      go : (t : Bool) → marked stamp xs ≤ length xs
          → (elim t as (λ _. ℕ) [ true ↦ suc (marked stamp xs) | false ↦ marked stamp xs ]) ≤ suc (length xs)
      go true h = omega arith
      go false h = omega arith

  pub marked-set : (l : List ℕ) (i : ℕ) → i < length l → (get_or l i 0 ≡ stamp → ⊥) → marked stamp (set l i stamp) ≡ suc (marked stamp l)
  unfolding marked
  marked-set [] i h n = absurd (omega arith)
  marked-set (x ∷ xs) zero h n = rw (ne_eqb x stamp n, eq-eqb stamp stamp refl, marked) refl
  marked-set (x ∷ xs) (suc i) h n = go (eqb x stamp) (marked-set xs i (omega arith) n)
    where
      go : (t : Bool) → marked stamp (set xs i stamp) ≡ suc (marked stamp xs)
          → ◌≡◌ {A = ℕ} (elim t as (λ _. ℕ) [ true ↦ suc (marked stamp (set xs i stamp)) | false ↦ marked stamp (set xs i stamp) ])
          (suc (elim t as (λ _. ℕ) [ true ↦ suc (marked stamp xs) | false ↦ marked stamp xs ]))
      go true e = ap suc e
      go false e = e
