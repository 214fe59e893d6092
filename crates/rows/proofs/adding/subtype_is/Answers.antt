-- A row is the constraint if both names and the loader are.
use Rattle.std.proofs.Common.{arith}
use Rattle.std.proofs.lemmas.Grind.{common_steps}
use Rattle.definition.specs.Loading.{subtype_is}
use Rattle.definition.specs.Tables.{subtype_at}
use Rattle.rows.proofs.adding.subtype_is.Goals as goal
use Rattle.rows.proofs.adding.subtype_is.Goals.{then-first-low, else-first-low}

pub returns-then-second-high : goal.returns-then-second-high
unfolding subtype_is subtype_at
returns-then-second-high c = elim c.if-first-low.branch [ then-first-low w ↦ grind (arith, common_steps) | else-first-low w ↦ grind (arith, common_steps) ]

pub returns-else-second-high : goal.returns-else-second-high
unfolding subtype_is subtype_at
returns-else-second-high c = elim c.if-first-low.branch [ then-first-low w ↦ grind (arith, common_steps) | else-first-low w ↦ grind (arith, common_steps) ]
