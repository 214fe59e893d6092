-- Tied requests are judged by their classes, others by their marks.
use mathlib.Core.Path.{sym, ◌∙◌}
use Rattle.constraints.specs.Pairs.{tied}
use Rattle.constraints.proofs.Pairing.{judged-same, judged-out, judged-into, judged-both}
use Rattle.constraints.proofs.pairs.pair_at.Goals as goal

pub returns-then-at : goal.returns-then-at
returns-then-at c =
    let one = c.if-place-group.true in
    judged-same _ _ _ _ _ _ _ _ _ (sym c.place.ensures.0 ∙ one ∙ c.place-group.ensures.0)
    (sym c.at.ensures ∙ c.if-at.true ∙ c.at-then-place-group.ensures)

pub returns-then-place-group : goal.returns-then-place-group
returns-then-place-group c =
    let one = c.if-place-group.true in
    tied (sym c.place.ensures.0 ∙ one ∙ c.place-group.ensures.0)
    (λ q. c.if-at.false (c.at.ensures ∙ q ∙ sym c.at-then-place-group.ensures))

pub returns-then-not-out_agrees : goal.returns-then-not-out_agrees
returns-then-not-out_agrees c =
    let place = c.place-group.ensures.0 in
    judged-out _ _ _ _ _ _ _ _ _ (λ q. c.if-place-group.false (c.place.ensures.0 ∙ q ∙ sym place))
    (sym (rw place at c.out_agrees.ensures) ∙ c.if-not-out_agrees.true)

pub returns-then-not-in_agrees : goal.returns-then-not-in_agrees
returns-then-not-in_agrees c =
    let place = c.place-group.ensures.0 in
    judged-into _ _ _ _ _ _ _ _ _ (λ q. c.if-place-group.false (c.place.ensures.0 ∙ q ∙ sym place))
    (sym (rw place at c.in_agrees.ensures) ∙ c.if-not-in_agrees.true)

pub returns : goal.returns
returns c =
    let place = c.place-group.ensures.0 in
    judged-both _ _ _ _ _ _ _ _ _ (λ q. c.if-place-group.false (c.place.ensures.0 ∙ q ∙ sym place))
    (sym (rw place at c.out_agrees.ensures) ∙ c.if-not-out_agrees.false)
    (sym (rw place at c.in_agrees.ensures) ∙ c.if-not-in_agrees.false)
