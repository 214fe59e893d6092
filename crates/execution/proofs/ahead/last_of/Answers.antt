-- With no step more the last answer stays; else the task whose turn it is ran.
use Rattle.execution.specs.Ahead.{last_none, last_some}
use Rattle.execution.proofs.ahead.last_of.Goals as goal

pub returns-then-more-eq0 : goal.returns-then-more-eq0
returns-then-more-eq0 c = last_none _ _ _ c.if-more-eq0.true

pub returns-else-more-eq0 : goal.returns-else-more-eq0
returns-else-more-eq0 c = last_some _ _ _ _ c.if-more-eq0.false c.turn.ensures
