-- A value of another kind names no object.
use mathlib.Core.Path.{◌∙◌, sym}
use Rattle.definition.specs.Tables.{value_at}
use Rattle.sweeping.proofs.Laws.{value-object, value-other}
use Rattle.sweeping.proofs.marking.mark_value.Goals as goal

pub returns-then-at-ne-KIND_OBJECT : goal.returns-then-at-ne-KIND_OBJECT
unfolding value_at
returns-then-at-ne-KIND_OBJECT c = sym (value-other _ _ _ (λ e. c.if-at-ne-KIND_OBJECT.true (c.at.ensures ∙ e)))

pub returns : goal.returns
unfolding value_at
returns c =
    c.mark_object.ensures ∙ rw c.at-2.ensures (sym (value-object _ _ _ (sym c.at.ensures ∙ c.if-at-ne-KIND_OBJECT.false)))
