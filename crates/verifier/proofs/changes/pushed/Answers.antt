-- At most 16 operands are there after a push.
use mathlib.Core.Path.{◌≡◌, sym, ◌∙◌}
use lib.ListN.{length}
use Rattle.verifier.specs.Answers.{change_of}
use Rattle.verifier.proofs.ChangeLaws.{pushed-full, pushed-fits}
use borrow.Author.Rules.{rules}
use Rattle.verifier.proofs.changes.pushed.Goals as goal

pub returns-then-d-ge-OPERANDS : goal.returns-then-d-ge-OPERANDS
unfolding change_of
returns-then-d-ge-OPERANDS c = sym (pushed-full _ _ _ _ _ c.if-d-ge-OPERANDS.true)

pub returns : goal.returns
returns c =
    c.left.ensures
    ∙ sym (pushed-fits _ _ _ _ _ (let full : length c.args.types.operands ≡ 16 = search rules in full) c.if-d-ge-OPERANDS.false)
