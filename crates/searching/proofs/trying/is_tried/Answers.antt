-- By the mark of offer i, and by whose request it is for.
use mathlib.Core.Path.{sym, ◌∙◌}
use Rattle.searching.proofs.Steps.{tried-used, tried-for, tried_other}
use Rattle.searching.proofs.trying.is_tried.Goals as goal

pub returns-then-at-ne0 : goal.returns-then-at-ne0
returns-then-at-ne0 c = tried-used _ _ _ 0 _ _ _ _ (λ e. c.if-at-ne0.true (c.at.ensures ∙ e))

pub returns-then-is_for : goal.returns-then-is_for
returns-then-is_for c = tried-for _ _ _ _ _ _ _ _ (sym c.at.ensures ∙ c.if-at-ne0.false) c.from.ensures (sym c.is_for.ensures ∙ c.if-is_for.true)

pub returns-else-is_for : goal.returns-else-is_for
returns-else-is_for c = tried_other _ _ _ _ _ _ _ _ (sym c.at.ensures ∙ c.if-at-ne0.false) c.from.ensures (sym c.is_for.ensures ∙ c.if-is_for.false)
