-- Another answer leaves the counts.
use Rattle.std.proofs.Common.{sym, ◌∙◌}
use Rattle.execution.specs.Carried.{closed-not, closed_on}
use Rattle.execution.proofs.turns.close.Goals as goal

pub returns-then-went_on : goal.returns-then-went_on
returns-then-went_on c = rw c.put.ensures (closed_on _ _ (sym c.went_on.ensures ∙ c.if-went_on.true))

pub returns-else-went_on : goal.returns-else-went_on
returns-else-went_on c = closed-not _ _ (sym c.went_on.ensures ∙ c.if-went_on.false)
