-- The rows that were passed are offers.
use Rattle.searching.proofs.Reading.{read_more, read-stop, read-end, too_many, cut_off, read-rows}
use native.Mathlib.Omega.{arith}
use mathlib.Core.Path.{refl, sym, ◌∙◌}
use Rattle.searching.proofs.offers.read_offers.Goals as goal

pub returns-then-offers : goal.returns-then-offers
returns-then-offers c = sym (too_many _ _ c.if-offers.true)

pub returns-then-offers-ne0 : goal.returns-then-offers-ne0
returns-then-offers-ne0 c = sym (cut_off _ _ c.if-offers.false c.if-offers-ne0.true)

pub loop-i-init : goal.loop-i-init
loop-i-init c = (omega arith, omega (arith, c.if-offers.false), read-rows _ _ c.if-offers.false c.if-offers-ne0.false _ refl)

pub returns-then-not-is_offer : goal.returns-then-not-is_offer
returns-then-not-is_offer c = sym (read-stop _ _ _ _ c.loop-i-test.true (sym c.is_offer.ensures ∙ c.if-not-is_offer.true)) ∙ c.loop-i.invariant.2

pub loop-i-preserved : goal.loop-i-preserved
loop-i-preserved c = (omega (arith, c.loop-i-test.true), c.loop-i.invariant.1, sym (read_more _ _ _ _ c.loop-i-test.true (sym c.is_offer.ensures ∙ c.if-not-is_offer.false)) ∙ c.loop-i.invariant.2)

pub returns : goal.returns
returns c = sym (read-end _ _ _ _ c.loop-i-test.false) ∙ c.loop-i.invariant.2
