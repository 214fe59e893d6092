-- By how many ties were posted.
use Rattle.std.proofs.Common.{sym, ◌∙◌}
use Rattle.execution.specs.Turns.{regrouped-not, regrouped-on}
use Rattle.execution.proofs.turns.regroup.Goals as goal

pub returns-then-tie_number-ne0 : goal.returns-then-tie_number-ne0
returns-then-tie_number-ne0 c = c.write_groups.ensures ∙ regrouped-on _ _ _ (λ e. c.if-tie_number-ne0.true (c.tie_number.ensures.0 ∙ e))

pub returns-else-tie_number-ne0 : goal.returns-else-tie_number-ne0
returns-else-tie_number-ne0 c = regrouped-not _ _ _ (sym c.tie_number.ensures.0 ∙ c.if-tie_number-ne0.false)
