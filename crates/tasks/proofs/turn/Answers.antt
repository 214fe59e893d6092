-- The quote's turn unless it has no frame.
use mathlib.Core.Path.{sym, ◌∙◌}
use borrow.Author.Tests.{eq-eqb, ne_eqb}
use Rattle.tasks.specs.Turns.{turn_of}
use Rattle.definition.specs.Instructions.{pick}
use Rattle.tasks.proofs.turn.Goals as goal

pub returns-then-at-eq0 : goal.returns-then-at-eq0
unfolding turn_of pick
returns-then-at-eq0 c = rw (eq-eqb _ _ (sym c.at.ensures ∙ c.if-at-eq0.true))

pub returns-else-at-eq0 : goal.returns-else-at-eq0
unfolding turn_of pick
returns-else-at-eq0 c = rw (ne_eqb _ _ (λ e. c.if-at-eq0.false (c.at.ensures ∙ e)))
