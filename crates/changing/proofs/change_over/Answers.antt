-- Lengths of the new tables, the judgement on the old ones, and the filling.
use mathlib.Core.Path.{sym, ◌∙◌}
use Rattle.changing.proofs.Changing.{wrong-lengths, judged-broken, filled-new}
use Rattle.changing.proofs.change_over.Goals as goal

pub returns-then-not-is_shaped : goal.returns-then-not-is_shaped
returns-then-not-is_shaped c = wrong-lengths _ _ (sym c.is_shaped.ensures ∙ c.if-not-is_shaped.true)

pub returns-in_default : goal.returns-in_default
returns-in_default c = judged-broken _ _ c.in_default.ensures

pub returns : goal.returns
returns c = filled-new _ _ _ c.in-Some.ensures (sym c.is_shaped.ensures ∙ c.if-not-is_shaped.false) _ c.fill.ensures
