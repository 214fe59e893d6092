-- A walk upward.
use Rattle.std.proofs.Math.Path.{sym}
use Rattle.std.proofs.Common.{◌∙◌}
use Rattle.cells.specs.Optional.{optional-none, optional-some}
use Rattle.laws.specs.Agreement.{super-falls}
use Rattle.resolution.proofs.Laws.{below_none, below-same, below_up}
use Rattle.resolution.proofs.Base.is_below.Goals as goal

pub returns-then-at-d : goal.returns-then-at-d
returns-then-at-d c = sym (below-same _ (super-falls _) _ _ c.if-at-d.true) ∙ c.loop-at.invariant

pub returns-in_default : goal.returns-in_default
returns-in_default c = sym (below_none _ (super-falls _) _ _ c.if-at-d.false (optional-none _ (sym c.in_default.ensures))) ∙ c.loop-at.invariant

pub loop-at-smaller : goal.loop-at-smaller
loop-at-smaller c = super-falls _ _ _ (optional-some _ _ (sym c.in-Some.ensures))

pub loop-at-preserved : goal.loop-at-preserved
loop-at-preserved c = sym (below_up _ (super-falls _) _ _ _ c.if-at-d.false (optional-some _ _ (sym c.in-Some.ensures))) ∙ c.loop-at.invariant
