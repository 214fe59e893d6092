-- The operands within the count are marked, and then all locals.
use mathlib.Core.Path.{refl, ◌∙◌}
use Rattle.sweeping.proofs.Laws.{frame-named}
use Rattle.sweeping.proofs.marking.mark_frame.Goals as goal

pub returns : goal.returns
returns c =
    c.mark_values.ensures ∙ frame-named _ _ _ _ _ _ refl c.at-depth.ensures c.mark_operands-size.ensures
