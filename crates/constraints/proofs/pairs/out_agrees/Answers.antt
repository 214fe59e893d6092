-- A pair is not marked, or is of one class, or the marks of classes decide it.
use mathlib.Core.Path.{sym, ◌∙◌}
use borrow.Author.Tests.{eq-eqb}
use Rattle.constraints.proofs.Pairing.{marked-out, unmarked-out}
use Rattle.constraints.proofs.Supers.{above_same, above_other}
use Rattle.constraints.proofs.pairs.out_agrees.Goals as goal

pub returns-then-at-stamp : goal.returns-then-at-stamp
returns-then-at-stamp c = sym (unmarked-out _ _ _ _ _ _ _ (λ q. c.if-at-stamp.true (c.at.ensures ∙ q)))

pub returns-then-place-class : goal.returns-then-place-class
returns-then-place-class c =
    eq-eqb _ _ c.if-place-class.true
    ∙ sym
    (marked-out _ _ _ _ _ _ _ (sym c.at.ensures ∙ c.if-at-stamp.false)
    ∙ above_same _ _ _ _ (sym c.place.ensures.0 ∙ c.if-place-class.true ∙ c.place-class.ensures.0))

pub returns-else-place-class : goal.returns-else-place-class
returns-else-place-class c =
    rw (c.at-else-place-class.ensures, c.place-class.ensures.0)
    (sym
    (marked-out _ _ _ _ _ _ _ (sym c.at.ensures ∙ c.if-at-stamp.false)
    ∙ above_other _ _ _ _ (λ q. c.if-place-class.false (c.place.ensures.0 ∙ q ∙ sym c.place-class.ensures.0))))
