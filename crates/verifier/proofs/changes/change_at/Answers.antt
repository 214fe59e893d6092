-- The instruction's effect, carried out.
use mathlib.Core.Path.{ap, ◌∙◌}
use Rattle.verifier.specs.Effects.{left_by, leaves}
use Rattle.verifier.specs.Answers.{outcome_of, change_of}
use Rattle.verifier.proofs.changes.change_at.Goals as goal

pub returns-in_err-effect : goal.returns-in_err-effect
unfolding change_of leaves left_by outcome_of
returns-in_err-effect c = rw (c.from_residual.ensures, ← c.in_err-effect.ensures)

pub returns : goal.returns
unfolding leaves
returns c = c.carried_out.ensures ∙ ap (left_by _) c.in_ok-effect.ensures
