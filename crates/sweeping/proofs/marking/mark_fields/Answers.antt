-- As many fields as the object's class has are marked.
use mathlib.Core.Path.{refl, ◌∙◌}
use Rattle.sweeping.proofs.Laws.{fields-named}
use Rattle.sweeping.proofs.marking.mark_fields.Goals as goal

pub returns : goal.returns
returns c =
    c.mark_values.ensures ∙ fields-named _ _ _ _ _ _ refl (c.at.ensures ∙ rw c.at-class.ensures)
