use mathlib.Core.Path.{◌≡◌}
use Prim.Native.Nat.{ℕ}
use Rattle.definition.specs.Lists.{rows}
use Rattle.definition.specs.Tables.{number_at}
use Rattle.definition.specs.Listing.{Row, row_numbered}
use Rattle.listing.proofs.Laws.{from}
use Rattle.listing.proofs.find_number.Given as goal

abbrev pub invariant-loop-i : goal.invariant-loop-i
invariant-loop-i l =
    (g : ℕ → Row) → row_numbered (rows g l.n 0) (rows (number_at l.first l.counts) l.n 0) l.number ≡ from l.counts l.first l.n l.number g l.i
