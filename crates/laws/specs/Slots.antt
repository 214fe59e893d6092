-- Fields of an object: a superclass's come first.
use Rattle.std.proofs.Math.Path.{◌≡◌, refl}
use Rattle.std.proofs.Math.Option.{Option, none, some}
use mathlib.Core.List.{List, [], ◌++◌}
use Prim.Native.Nat.{ℕ, zero, suc, ◌≤◌, ◌<◌}
use Rattle.std.proofs.Common.{arith}
use Rattle.std.proofs.Math.ListN.{get_elem?}
use Rattle.definition.specs.Classes.{Base, Slot, own_slots, slots, slots_in, super_of}
use Rattle.definition.specs.Superclasses.{Below, same, up}
use Rattle.laws.specs.Agreement.{super-falls, nth-more}

module _ (b : Base) where
  slots-fuel : (j k c : ℕ) → c ≤ j → c ≤ k → slots_in j b c ≡ slots_in k b c
  unfolding slots_in
  slots-fuel zero zero c l m = refl
  slots-fuel zero (suc k) c l m = go (super_of b c) refl
    where
      go : (o : Option ℕ) → super_of b c ≡ o → ◌≡◌ {A = List Slot} (own_slots b c) (elim o as (λ _. List Slot) [ none ↦ own_slots b c | some p ↦ slots_in k b p ++ own_slots b c ])
      go none e = refl
      go (some p) e = absurd (omega (arith, super-falls b c p e))
  slots-fuel (suc j) zero c l m = go (super_of b c) refl
    where
      go : (o : Option ℕ) → super_of b c ≡ o → ◌≡◌ {A = List Slot} (elim o as (λ _. List Slot) [ none ↦ own_slots b c | some p ↦ slots_in j b p ++ own_slots b c ]) (own_slots b c)
      go none e = refl
      go (some p) e = absurd (omega (arith, super-falls b c p e))
  slots-fuel (suc j) (suc k) c l m = go (super_of b c) refl (λ p h. slots-fuel j k p (omega arith) (omega arith))
    where
      go : (o : Option ℕ) → super_of b c ≡ o → ((p : ℕ) → p < c → slots_in j b p ≡ slots_in k b p)
          → ◌≡◌ {A = List Slot} (elim o as (λ _. List Slot) [ none ↦ own_slots b c | some p ↦ slots_in j b p ++ own_slots b c ]) (elim o as (λ _. List Slot) [ none ↦ own_slots b c | some p ↦ slots_in k b p ++ own_slots b c ])
      go none e f = refl
      go (some p) e f = rw (f p (super-falls b c p e)) refl

  slots-step : (n c p : ℕ) → c ≡ suc n → super_of b c ≡ some p → slots_in (suc n) b c ≡ slots b p ++ own_slots b c
  unfolding slots slots_in
  slots-step n c p e s = rw (s, slots_in) (rw (slots-fuel n p p (omega (arith, super-falls b c p s)) (omega arith)) refl)

  pub slots-up : (c p : ℕ) → super_of b c ≡ some p → slots b c ≡ slots b p ++ own_slots b c
  unfolding slots
  slots-up zero p s = absurd (omega (arith, super-falls b zero p s))
  slots-up (suc n) p s = slots-step n (suc n) p refl s

  -- a class with no superclass has its own fields alone
  pub slots-none : (c : ℕ) → super_of b c ≡ none → slots b c ≡ own_slots b c
  unfolding slots slots_in
  slots-none zero e = refl
  slots-none (suc n) e = rw (e, slots_in) refl

  -- the class's own fields stand last
  pub slots-own : (c : ℕ) → (pre : List Slot) × (slots b c ≡ pre ++ own_slots b c)
  slots-own c = go (super_of b c) refl
    where
      go : (o : Option ℕ) → super_of b c ≡ o → (pre : List Slot) × (slots b c ≡ pre ++ own_slots b c)
      go none e = ([], slots-none c e)
      go (some p) e = (slots b p, slots-up c p e)

  -- an object of a class below d has d's fields where d has them
  pub slots-below : {c d : ℕ} → Below (super_of b) c d → (i : ℕ) (s : Slot) → get_elem? (slots b d) i ≡ some s → get_elem? (slots b c) i ≡ some s
  slots-below (same q) i s h = rw q h
  slots-below (up {c} {p} e z) i s h = rw (slots-up c p e) (nth-more (slots b p) (own_slots b c) i s (slots-below z i s h))
