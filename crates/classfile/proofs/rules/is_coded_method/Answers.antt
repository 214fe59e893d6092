-- A code length that is not 1 to 512 is answered at once; the last part of the test is that the code ends within the bytes.
use mathlib.Core.Path.{sym, ◌∙◌}
use borrow.Author.Tests.{le-leb, lt-leb}
use Rattle.classfile.specs.Lists.{every_first, every-fails, every-last}
use Rattle.classfile.specs.Reading.{code_end}
use Rattle.classfile.specs.Rules.{coded_method}
use Rattle.classfile.proofs.rules.is_coded_method.Goals as goal

pub returns-then-length-lt1 : goal.returns-then-length-lt1
unfolding coded_method
returns-then-length-lt1 c = sym (every-fails _ _ (lt-leb _ _ (rw c.code_length-length.ensures at c.if-length-lt1.true)))

pub returns-then-length-gt-CODE_LIMIT : goal.returns-then-length-gt-CODE_LIMIT
unfolding coded_method
returns-then-length-gt-CODE_LIMIT c =
    let some = le-leb _ _ (rw c.code_length-length.ensures at c.if-length-lt1.false) in
    let many = lt-leb _ _ (rw c.code_length-length.ensures at c.if-length-gt-CODE_LIMIT.true) in
    sym (every_first _ _ some ∙ every-fails _ _ many)

pub returns : goal.returns
unfolding coded_method code_end
returns c =
    let some = le-leb _ _ (rw c.code_length-length.ensures at c.if-length-lt1.false) in
    let few = le-leb _ _ (rw c.code_length-length.ensures at c.if-length-gt-CODE_LIMIT.false) in
    rw (c.code_place.ensures.0, c.from.ensures, c.code_length-length.ensures)
    (sym (every_first _ _ some ∙ every_first _ _ few ∙ every-last _))
