-- Superclasses: what lies upward of a class, and the nearest class upward that passes a test; over any map from a class to its direct
-- superclass whose numbers fall.
use Rattle.std.specs.Prelude.{◌≡◌, Bool, true, false, ℕ, zero, suc, ◌<◌, eqb}
use Rattle.std.proofs.Math.Option.{Option, none, some}

-- `Below sup c d`: c is d, or lies below it
pub data Below (sup : ℕ → Option ℕ) : ℕ → ℕ → Type 0 where
  same : {c d : ℕ} → c ≡ d → Below sup c d
  up : {c p d : ℕ} → sup c ≡ some p → Below sup p d → Below sup c d

abbrev pub Falls : (ℕ → Option ℕ) → Type 0
Falls sup = (c p : ℕ) → sup c ≡ some p → p < c

-- the nearest class upward of c, c included, that passes, among at most `fuel` classes
unfoldable pub seek : (ℕ → Option ℕ) → (ℕ → Bool) → ℕ → ℕ → Option ℕ
seek sup test zero c = none
seek sup test (suc k) c = elim (test c) [ true ↦ some c | false ↦ elim (sup c) [ none ↦ none | some p ↦ seek sup test k p ] ]

unfoldable pub nearest : (ℕ → Option ℕ) → (ℕ → Bool) → ℕ → Option ℕ
nearest sup test c = seek sup test (suc c) c

-- the same as a test, `below sup c d`: c is d or below it
unfoldable pub below : (ℕ → Option ℕ) → ℕ → ℕ → Bool
below sup c d = elim (nearest sup (λ x. eqb x d) c) [ none ↦ false | some _ ↦ true ]
