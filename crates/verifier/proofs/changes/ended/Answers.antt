-- A return that meets the result type leaves the types as they are.
use mathlib.Core.Path.{sym, ◌∙◌}
use Rattle.verifier.specs.Answers.{outcome_of, change_of}
use Rattle.verifier.specs.Effects.{ending, left_by}
use Rattle.verifier.proofs.ChangeLaws.{met-notes, unmet-notes, made-alone}
use Rattle.verifier.proofs.changes.ended.Goals as goal

pub returns-then-not-met : goal.returns-then-not-met
unfolding outcome_of ending left_by change_of
returns-then-not-met c = rw (unmet-notes _ (sym c.met.ensures ∙ c.if-not-met.true))

pub returns : goal.returns
unfolding outcome_of ending left_by change_of
returns c = rw (met-notes _ (sym c.met.ensures ∙ c.if-not-met.false), made-alone c.args.m _ _)
