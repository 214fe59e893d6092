-- A class is not bad for itself; by ties alone every other is, by all links one that isn't marked as above it.
use Rattle.std.proofs.Common.{sym, ap, ◌∙◌, not}
use borrow.Author.Tests.{eq-eqb}
use Rattle.constraints.proofs.Spreading.{bad-one, bad-other, bad-marked}
use Rattle.constraints.proofs.layers.is_bad.Goals as goal

pub returns-then-only : goal.returns-then-only
returns-then-only c = c.if-only.true ∙ sym (bad-other _ _ _ _ _ c.if-only.true c.if-c-class.true)

pub returns-else-only : goal.returns-else-only
returns-else-only c = rw (c.at.ensures, c.from.ensures) (sym (bad-marked _ _ _ _ _ c.if-only.false c.if-c-class.true))

pub returns-else-c-class : goal.returns-else-c-class
returns-else-c-class c = ap not (eq-eqb _ _ c.if-c-class.false) ∙ sym (bad-one _ _ _ _ _ c.if-c-class.false)
