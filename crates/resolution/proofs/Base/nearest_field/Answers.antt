-- A walk upward.
use Rattle.std.proofs.Math.Path.{ap, sym}
use Rattle.std.proofs.Common.{◌∙◌}
use Rattle.cells.specs.Optional.{optional, optional-none, optional-some}
use Rattle.laws.specs.Agreement.{super-falls}
use Rattle.laws.specs.Upward.{nearest-here, nearest-none, nearest-up}
use Rattle.resolution.specs.Quick.{has-field-quick}
use Rattle.resolution.proofs.Base.nearest_field.Goals as goal

pub returns-then-declares_field : goal.returns-then-declares_field
returns-then-declares_field c = ap optional (sym (nearest-here _ (super-falls _) _ _ (has-field-quick _ _ _ _ _ _ _ ∙ (sym c.declares_field.ensures ∙ c.if-declares_field.true))) ∙ c.loop-c.invariant)

pub returns-in_err-at : goal.returns-in_err-at
returns-in_err-at c = c.from_residual.ensures ∙ ap optional (sym (nearest-none _ (super-falls _) _ _ (has-field-quick _ _ _ _ _ _ _ ∙ (sym c.declares_field.ensures ∙ c.if-declares_field.false)) (optional-none _ (sym c.in_err-at.ensures))) ∙ c.loop-c.invariant)

pub loop-c-smaller : goal.loop-c-smaller
loop-c-smaller c = super-falls _ _ _ (optional-some _ _ (sym c.in_ok-at.ensures))

pub loop-c-preserved : goal.loop-c-preserved
loop-c-preserved c = sym (nearest-up _ (super-falls _) _ _ _ (has-field-quick _ _ _ _ _ _ _ ∙ (sym c.declares_field.ensures ∙ c.if-declares_field.false)) (optional-some _ _ (sym c.in_ok-at.ensures))) ∙ c.loop-c.invariant
