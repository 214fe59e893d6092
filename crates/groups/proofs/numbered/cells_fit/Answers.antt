use mathlib.Core.Path.{sym, ◌∙◌}
use Rattle.definition.specs.Tables.{number_at}
use Rattle.groups.proofs.Numbering.{same-hit, same-on, same_end}
use Rattle.groups.proofs.numbered.cells_fit.Goals as goal

pub returns-then-at-root_number : goal.returns-then-at-root_number
unfolding number_at
returns-then-at-root_number c = sym (same-hit _ _ _ _ c.loop-i-test.true (λ e. c.if-at-root_number.true (c.at.ensures ∙ e ∙ sym c.root_number.ensures))) ∙ c.loop-i.invariant

pub loop-i-preserved : goal.loop-i-preserved
unfolding number_at
loop-i-preserved c = sym (same-on _ _ _ _ c.loop-i-test.true (sym c.at.ensures ∙ c.if-at-root_number.false ∙ c.root_number.ensures)) ∙ c.loop-i.invariant

pub returns : goal.returns
returns c = sym (same_end _ _ _ _ c.loop-i-test.false) ∙ c.loop-i.invariant
