-- The receiver is met, or nothing is left.
use mathlib.Core.Path.{sym, ◌∙◌}
use Rattle.verifier.specs.Answers.{change_of}
use Rattle.verifier.proofs.ChangeLaws.{unmet-notes, unmet-left, met-left}
use Rattle.verifier.proofs.changes.left.Goals as goal

pub returns-then-not-met : goal.returns-then-not-met
unfolding change_of
returns-then-not-met c = sym (unmet-left _ _ _ _ (unmet-notes _ (sym c.met.ensures ∙ c.if-not-met.true)))

pub returns : goal.returns
unfolding change_of
returns c = sym (met-left _ _ _ _ (sym c.met.ensures ∙ c.if-not-met.false))
