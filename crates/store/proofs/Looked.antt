-- Values by their cells, and fields of which all are looked at: a number is 0 as long as they fit.
use mathlib.Core.Path.{◌≡◌, refl, sym, ap, ◌∙◌}
use mathlib.Core.Bool.{Bool, true, false, ◌&&◌}
use mathlib.Core.List.{List}
use Prim.Native.Nat.{ℕ, ◌+◌, ◌*◌, ◌-◌, ◌<◌, ◌≤◌}
use native.Mathlib.Omega.{arith}
use lib.ListN.{length, get_or}
use lib.Dec.{eqb, ltb}
use borrow.Author.Tests.{ne_eqb, eq-eqb, eqb-true, eqb-false}
use Rattle.definition.specs.Instructions.{pick}
use Rattle.definition.specs.Lists.{all, rows}
use Rattle.definition.specs.Classes.{Base}
use Rattle.definition.specs.Machine.{Value}
use Rattle.definition.specs.Tables.{value_of, value_at, field_at, owner_at}
use Rattle.layout.specs.Places.{rows-hit, rows_on, rows_end}
use Rattle.resolution.specs.Quick.{either}
use Rattle.store.specs.Checks.{exists, value_in, limit_of, Sized, SizesFew}
use Rattle.store.proofs.Laws.{exists-past, exists-owned, object-fits, null-fits, none-fits}

-- a test more, which passes or fails
pub and_yes : (t u : Bool) → u ≡ true → t ≡ (t && u)
and_yes true u e = sym e
and_yes false u e = refl

pub and_no : (t u : Bool) → u ≡ false → false ≡ (t && u)
and_no true u e = sym e
and_no false u e = refl

-- a value that isn't an int: by the limit of its kind, and an object by its owner

module _ (counts : List ℕ) (m k b : ℕ) (other : k ≡ 1 → ⊥) where
  abbrev fits : Bool
  fits = value_in (exists counts m) (value_of k b)

  pub past-limit : limit_of k m ≤ b → fits ≡ false
  unfolding limit_of pick
  past-limit h = go (eqb k 3) (eqb k 2) refl refl h
    where
      go : (s t : Bool) → eqb k 3 ≡ s → eqb k 2 ≡ t → pick s m (pick t 1 0) ≤ b → fits ≡ false
      go true t p q l = object-fits _ k b (eqb-true k 3 p) ∙ exists-past counts m b l
      go false true p q l = null-fits _ k b (eqb-true k 2 q) ∙ ne_eqb b 0 (λ e. omega arith)
      go false false p q l = none-fits _ k b other (eqb-false k 3 p) (eqb-false k 2 q)

  pub owned-fits : k ≡ 3 → b < limit_of k m → fits ≡ ltb 0 (owner_at counts b)
  unfolding limit_of pick
  owned-fits e h = object-fits _ k b e ∙ exists-owned counts m b (rw (eq-eqb k 3 e) at h)

  pub null-only : (k ≡ 3 → ⊥) → b < limit_of k m → fits ≡ true
  unfolding limit_of pick
  null-only apart h = go (eqb k 2) refl (rw (ne_eqb k 3 apart) at h)
    where
      go : (t : Bool) → eqb k 2 ≡ t → b < pick t 1 0 → fits ≡ true
      go true q l = null-fits _ k b (eqb-true k 2 q) ∙ eq-eqb b 0 (omega arith)
      go false q l = absurd (omega arith)

-- one field more, and the last

module _ (f : Value → Bool) (g : ℕ → Value) (n : ℕ) (whole : Bool) where
  all-step : (i : ℕ) → i < n → all f (rows g (n - i) i) ≡ (f (g i) && all f (rows g (n - (i + 1)) (i + 1)))
  all-step i h = go (f (g i)) refl
    where
      go : (t : Bool) → f (g i) ≡ t → all f (rows g (n - i) i) ≡ (t && all f (rows g (n - (i + 1)) (i + 1)))
      go true e = rows_on f g n i h e
      go false e = rows-hit f g n i h e

  joined : (a b c : Bool) → ((a && b) && c) ≡ (a && (b && c))
  joined true b c = refl
  joined false b c = refl

  pub field-more : (i x y : ℕ) → i < n → eqb y 0 ≡ (eqb x 0 && f (g i)) → (eqb x 0 && all f (rows g (n - i) i)) ≡ whole → (eqb y 0 && all f (rows g (n - (i + 1)) (i + 1))) ≡ whole
  field-more i x y h e p =
      ap (λ (t : Bool). t && all f (rows g (n - (i + 1)) (i + 1))) e
      ∙ (joined (eqb x 0) (f (g i)) (all f (rows g (n - (i + 1)) (i + 1))) ∙ (ap (λ (t : Bool). eqb x 0 && t) (sym (all-step i h)) ∙ p))

  pub field-last : (i x : ℕ) → n ≤ i → (eqb x 0 && all f (rows g (n - i) i)) ≡ whole → eqb x 0 ≡ whole
  field-last i x h p = and_yes (eqb x 0) (all f (rows g (n - i) i)) (rows_end f g n i h) ∙ p

-- a field's value stands in its two cells
pub field-cells : (t : List ℕ) (o i at : ℕ) → at ≡ o * 33 + (1 + 2 * i) → value_of (get_or t at 0) (get_or t (at + 1) 0) ≡ field_at t o i
unfolding field_at value_at
field-cells t o i at e = rw e

-- sizes are few
pub sized-few : (b : Base) (n : ℕ) (sizes : List ℕ) → Sized b n sizes → length sizes ≡ 64 → SizesFew sizes
sized-few b n sizes d l = (l, λ c. either c n (λ h. let p = (d c).0 h in omega (arith, p.0, p.1)) (λ h. omega (arith, (d c).1 h)))
