-- A name that is 0 is answered at once.
use mathlib.Core.Path.{sym, ◌∙◌}
use borrow.Author.Tests.{le-leb, lt-leb}
use Rattle.classfile.specs.Lists.{every_first, every-fails, every-last}
use Rattle.classfile.specs.Rules.{named_field}
use Rattle.classfile.proofs.rules.is_named_field.Goals as goal

pub returns-then-field_name-lt1 : goal.returns-then-field_name-lt1
unfolding named_field
returns-then-field_name-lt1 c = sym (every-fails _ _ (lt-leb _ _ (rw c.field_name.ensures at c.if-field_name-lt1.true)))

pub returns : goal.returns
unfolding named_field
returns c =
    let name = le-leb _ _ (rw c.field_name.ensures at c.if-field_name-lt1.false) in
    rw c.field_type.ensures (sym (every_first _ _ name ∙ every-last _))
