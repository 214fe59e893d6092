-- What is left to compare decides as the whole does.
use mathlib.Core.Path.{◌≡◌}
use lib.ListN.{get_or}
use Rattle.definition.specs.Lists.{rows}
use Rattle.definition.specs.Reasons.{precedes}
use Rattle.laws.specs.Earlier.{row_before}
use Rattle.constraints.specs.Walks.{trail}
use Rattle.constraints.proofs.Choices.{goes_on}
use Rattle.constraints.proofs.choosing.goes_before.Given as goal

abbrev pub invariant-loop-i : goal.invariant-loop-i
invariant-loop-i l = goes_on l.tos l.labels l.ways l.best l.k l.i l.here ≡ precedes row_before (trail l.tos l.labels l.ways l.k l.node) (rows (λ j. get_or l.best j 0) l.k 0)
