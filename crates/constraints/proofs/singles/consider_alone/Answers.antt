-- The link breaks nothing by itself, its row doesn't go before the one that is kept, or it is kept.
use Rattle.std.proofs.Common.{sym, ◌∙◌, Some, None}
use Rattle.constraints.proofs.Alones.{alone-not, alone-later, alone-sooner}
use Rattle.constraints.proofs.singles.consider_alone.Goals as goal

pub returns-then-not-breaks_alone : goal.returns-then-not-breaks_alone
returns-then-not-breaks_alone c = alone-not _ _ _ _ _ _ _ _ _ _ c.breaks_alone.ensures c.if-not-breaks_alone.true

pub returns-then-not-comes_first : goal.returns-then-not-comes_first
returns-then-not-comes_first c =
    rw c.in-Some.is (alone-later _ _ _ _ _ _ _ _ _ c.breaks_alone.ensures c.if-not-breaks_alone.false _ c.at-row.ensures _ (sym c.comes_first.ensures ∙ c.if-not-comes_first.true))

pub returns-else-not-comes_first : goal.returns-else-not-comes_first
returns-else-not-comes_first c =
    rw c.in-Some.is
    (alone-sooner _ _ _ _ _ _ _ _ _ c.breaks_alone.ensures c.if-not-breaks_alone.false _ c.at-row.ensures (Some c.in-Some.other) (sym c.comes_first.ensures ∙ c.if-not-comes_first.false))

pub returns-in_default : goal.returns-in_default
returns-in_default c = rw c.in_default.is (alone-sooner _ _ _ _ _ _ _ _ _ c.breaks_alone.ensures c.if-not-breaks_alone.false _ c.at-row.ensures None tt)
