-- Before row i is looked at, the search from there on finds what all of it finds.
use mathlib.Core.Path.{sym, ◌∙◌}
use native.Mathlib.Omega.{arith}
use Rattle.listing.proofs.Laws.{search-starts, search-out, search-hit, search-on}
use Rattle.listing.proofs.find_number.Goals as goal

pub loop-i-init : goal.loop-i-init
loop-i-init c = λ g. sym (search-starts _ _ _ _ g)

pub returns-then-from-number-clause-found : goal.returns-then-from-number-clause-found
returns-then-from-number-clause-found c =
    λ g. c.loop-i.invariant g ∙ search-hit _ _ _ _ g _ (omega (arith, c.loop-i-test.true, c.from-i-end.ensures)) (sym c.at.ensures ∙ sym c.from.ensures ∙ c.if-from-number.true)

pub loop-i-preserved : goal.loop-i-preserved
loop-i-preserved c =
    λ g. c.loop-i.invariant g ∙ search-on _ _ _ _ g _ (omega (arith, c.loop-i-test.true, c.from-i-end.ensures)) (λ z. c.if-from-number.false (c.from.ensures ∙ c.at.ensures ∙ z))

pub returns-clause-found : goal.returns-clause-found
returns-clause-found c = λ g. c.loop-i.invariant g ∙ search-out _ _ _ _ g _ (omega (arith, c.loop-i-test.false, c.from-i-end.ensures))
