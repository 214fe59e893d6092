-- The classes above a class, as marks in a table of 256 cells: no class but the lowest has a number above 255, since superclasses are cells
-- of 8 bits.
use Rattle.std.specs.Prelude.{◌≡◌, Bool, true, false, List, ◌⊎◌, ℕ, eqb, get_or}
use Rattle.std.proofs.Math.Option.{Option}
use Rattle.definition.specs.Numbers.{byte_range}
use Rattle.definition.specs.Superclasses.{Below}
use Rattle.constraints.specs.Search.{Marked, Stamped}

-- the marks are the classes above c
pub record Raised (sup : ℕ → Option ℕ) (c stamp : ℕ) (aboves : List ℕ) : Type 0 where
  pub stamped : Stamped byte_range stamp aboves
  pub sound : (d : ℕ) → Marked stamp aboves d → Below sup c d
  pub all : (d : ℕ) → Below sup c d → (d ≡ c) ⊎ Marked stamp aboves d

-- c is d, or d is marked
unfoldable pub is_above : List ℕ → ℕ → ℕ → ℕ → Bool
is_above aboves stamp c d = elim (eqb c d) [ true ↦ true | false ↦ eqb (get_or aboves d 0) stamp ]
