-- At most 16 operands are kept.
use mathlib.Core.Path.{sym, ◌∙◌}
use Rattle.verifier.specs.Answers.{change_of}
use Rattle.verifier.proofs.ChangeLaws.{kept_full, kept-fits}
use Rattle.verifier.proofs.changes.kept.Goals as goal

pub returns-then-d-gt-OPERANDS : goal.returns-then-d-gt-OPERANDS
unfolding change_of
returns-then-d-gt-OPERANDS c = sym (kept_full _ _ _ _ c.if-d-gt-OPERANDS.true)

pub returns : goal.returns
returns c = c.left.ensures ∙ sym (kept-fits _ _ _ _ c.if-d-gt-OPERANDS.false)
