-- A walk upward.
use Rattle.std.proofs.Math.Path.{ap, sym}
use Rattle.std.proofs.Common.{◌∙◌}
use Rattle.cells.specs.Optional.{optional-none, optional-some}
use Rattle.definition.specs.Lists.{index_of}
use Rattle.laws.specs.Agreement.{super-falls}
use Rattle.resolution.specs.Lookups.{selection, selected-here, selected-none, selected-up}
use Rattle.resolution.specs.Quick.{methods-quick}
use Rattle.resolution.proofs.Base.select_method.Goals as goal

pub returns-in-Some : goal.returns-in-Some
returns-in-Some c = ap selection (sym (selected-here _ _ _ _ (ap (index_of _) (methods-quick _ _ _ _ _) ∙ optional-some _ _ (sym c.in-Some.ensures))) ∙ c.loop-place.invariant)

pub returns-in_err-at : goal.returns-in_err-at
returns-in_err-at c = c.from_residual.ensures ∙ ap selection (sym (selected-none _ _ _ (ap (index_of _) (methods-quick _ _ _ _ _) ∙ optional-none _ (sym c.in_default.ensures)) (optional-none _ (sym c.in_err-at.ensures))) ∙ c.loop-place.invariant)

pub loop-place-smaller : goal.loop-place-smaller
loop-place-smaller c = super-falls _ _ _ (optional-some _ _ (sym c.in_ok-at.ensures))

pub loop-place-preserved : goal.loop-place-preserved
loop-place-preserved c = sym (selected-up _ _ _ _ (ap (index_of _) (methods-quick _ _ _ _ _) ∙ optional-none _ (sym c.in_default.ensures)) (optional-some _ _ (sym c.in_ok-at.ensures))) ∙ c.loop-place.invariant
