-- Requests: what a name is asked of, and the nodes of the chains of constraints. Ties are edges either way, subtype constraints edges upward,
-- so one account of chains serves 'tied' and 'leads to'.
use Rattle.std.specs.Prelude.{Bool, true, false, ℕ, eqb}

-- a loader and a class name
pub record Request : Type 0 where
  pub loader : ℕ
  pub name : ℕ

abbrev pub at : ℕ → ℕ → Request
at l n = record { loader = l; name = n }

unfoldable pub same_request : Request → Request → Bool
same_request a b = elim (eqb a.loader b.loader) [ true ↦ eqb a.name b.name | false ↦ false ]
