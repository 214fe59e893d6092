-- A row is the tie if it has the name, and the loaders as given or turned round.
use Rattle.std.proofs.Common.{arith}
use Rattle.std.proofs.lemmas.Grind.{common_steps}
use Rattle.definition.specs.Constraints.{tie_is}
use Rattle.definition.specs.Tables.{tie_at}
use Rattle.rows.proofs.adding.tie_is.Goals as goal
use Rattle.rows.proofs.adding.tie_is.Goals.{then-first-near, else-first-near}

pub returns-then-second-far : goal.returns-then-second-far
unfolding tie_is tie_at
returns-then-second-far c = elim c.if-first-near.branch [ then-first-near w ↦ grind (arith, common_steps) | else-first-near w ↦ grind (arith, common_steps) ]

pub returns-then-first-far : goal.returns-then-first-far
unfolding tie_is tie_at
returns-then-first-far c = elim c.if-first-near.branch [ then-first-near w ↦ grind (arith, common_steps) | else-first-near w ↦ grind (arith, common_steps) ]

pub returns-else-first-far : goal.returns-else-first-far
unfolding tie_is tie_at
returns-else-first-far c = elim c.if-first-near.branch [ then-first-near w ↦ grind (arith, common_steps) | else-first-near w ↦ grind (arith, common_steps) ]

pub returns-else-at-name : goal.returns-else-at-name
unfolding tie_is tie_at
returns-else-at-name c = grind (arith, common_steps)
