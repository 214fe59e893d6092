-- A class is not bad for itself; by ties alone every other is, by all links one that it isn't below.
use Rattle.std.proofs.Common.{sym, ap, ◌∙◌, not}
use borrow.Author.Tests.{eq-eqb}
use Rattle.constraints.proofs.Supers.{super-falls}
use Rattle.constraints.proofs.Alones.{self-good, tied-bad, led-bad}
use Rattle.constraints.proofs.singles.is_bad_for.Goals as goal

pub returns-then-only : goal.returns-then-only
returns-then-only c = c.if-only.true ∙ sym (tied-bad _ (super-falls _) _ _ _ c.if-only.true c.if-c-d.true)

pub returns-else-only : goal.returns-else-only
returns-else-only c = sym (led-bad _ (super-falls _) _ _ _ _ c.if-only.false c.is_below.ensures)

pub returns-else-c-d : goal.returns-else-c-d
returns-else-c-d c = ap not (eq-eqb _ _ c.if-c-d.false) ∙ sym (self-good _ (super-falls _) _ _ _ c.if-c-d.false)
