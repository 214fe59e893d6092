-- By the row's kind.
use borrow.Author.Tests.{ne_eqb}
use Rattle.definition.specs.Offers.{offer_at}
use Rattle.searching.proofs.Reading.{offer-define, offer-record, offer-none}
use mathlib.Core.Path.{sym, ◌∙◌}
use Rattle.searching.proofs.offers.is_offer.Goals as goal

pub returns-then-kind-eq-DEFINE : goal.returns-then-kind-eq-DEFINE
unfolding offer_at
returns-then-kind-eq-DEFINE c = rw (c.at.ensures, c.at-third.ensures) (sym (offer-define _ _ _ _ _ (sym c.at-kind.ensures ∙ c.if-kind-eq-DEFINE.true)))

pub returns-then-kind-eq-RECORD : goal.returns-then-kind-eq-RECORD
unfolding offer_at
returns-then-kind-eq-RECORD c = rw c.at-third.ensures (sym (offer-record _ _ _ _ _ (λ e. c.if-kind-eq-DEFINE.false (c.at-kind.ensures ∙ e)) (sym c.at-kind.ensures ∙ c.if-kind-eq-RECORD.true)))

pub returns-else-kind-eq-RECORD : goal.returns-else-kind-eq-RECORD
unfolding offer_at
returns-else-kind-eq-RECORD c = ne_eqb _ _ c.if-kind-eq-RECORD.false ∙ sym (offer-none _ _ _ _ _ (λ e. c.if-kind-eq-DEFINE.false (c.at-kind.ensures ∙ e)) (λ e. c.if-kind-eq-RECORD.false (c.at-kind.ensures ∙ e)))
