-- A local that is there is set.
use mathlib.Core.Path.{◌≡◌, sym, ◌∙◌}
use lib.ListN.{length}
use Rattle.verifier.specs.Answers.{change_of}
use Rattle.verifier.proofs.ChangeLaws.{stored-full, stored_at, stored_past}
use borrow.Author.Rules.{rules}
use Rattle.verifier.proofs.changes.stored.Goals as goal

pub returns-then-d-gt-OPERANDS : goal.returns-then-d-gt-OPERANDS
unfolding change_of
returns-then-d-gt-OPERANDS c = sym (stored-full _ _ _ _ c.if-d-gt-OPERANDS.true)

pub returns-then-i-ge-LOCALS : goal.returns-then-i-ge-LOCALS
returns-then-i-ge-LOCALS c = c.left.ensures ∙ sym (stored_past _ _ _ _ c.if-d-gt-OPERANDS.false c.if-i-ge-LOCALS.true)

pub returns : goal.returns
returns c =
    c.left-2.ensures
    ∙ sym
    (stored_at _ _ _ _ (let full : length c.args.types.locals ≡ 8 = search rules in full) c.if-d-gt-OPERANDS.false
    c.if-i-ge-LOCALS.false)
