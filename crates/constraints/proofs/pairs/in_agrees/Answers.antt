-- A pair is not marked, or the classes decide it.
use mathlib.Core.Path.{sym, ap, ◌∙◌}
use mathlib.Core.Bool.{not}
use borrow.Author.Tests.{ne_eqb}
use Rattle.constraints.proofs.Pairing.{marked-into, unmarked-into}
use Rattle.constraints.proofs.pairs.in_agrees.Goals as goal

pub returns-then-at-stamp : goal.returns-then-at-stamp
returns-then-at-stamp c = ap not (ne_eqb _ _ c.if-at-stamp.true) ∙ sym (unmarked-into _ _ _ _ _ _ _ (λ q. c.if-at-stamp.true (c.at.ensures ∙ q)))

pub returns-else-at-stamp : goal.returns-else-at-stamp
returns-else-at-stamp c =
    rw (c.place.ensures.0, c.place-else-at-stamp.ensures.0) at c.is_below.ensures
    ∙ sym (marked-into _ _ _ _ _ _ _ (sym c.at.ensures ∙ c.if-at-stamp.false))
