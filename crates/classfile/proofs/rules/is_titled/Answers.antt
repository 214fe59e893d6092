-- Each part of the test that fails is answered at once; the parts that passed before it are known.
use mathlib.Core.Path.{◌≡◌, sym, ◌∙◌}
use mathlib.Core.Bool.{true}
use lib.Dec.{leb}
use borrow.Author.Tests.{le-leb, lt-leb}
use Rattle.classfile.specs.Lists.{every_first, every-fails, every-last}
use Rattle.classfile.specs.Reading.{class_name, super_name, field_count}
use Rattle.classfile.specs.Rules.{titled}
use Rattle.classfile.proofs.rules.is_titled.Goals as goal

pub returns-then-class_name-lt-NAME_OBJECT : goal.returns-then-class_name-lt-NAME_OBJECT
unfolding titled
returns-then-class_name-lt-NAME_OBJECT c = sym (every-fails _ _ (lt-leb _ _ (rw c.class_name.ensures at c.if-class_name-lt-NAME_OBJECT.true)))

pub returns-then-super_name-lt-NAME_OBJECT : goal.returns-then-super_name-lt-NAME_OBJECT
unfolding titled
returns-then-super_name-lt-NAME_OBJECT c =
    let low = lt-leb _ _ (rw c.super_name.ensures at c.if-super_name-lt-NAME_OBJECT.true) in
    sym (every_first _ _ ((let it : leb 2 (class_name c.args.bytes.now) ≡ true = le-leb _ _ (rw c.class_name.ensures at c.if-class_name-lt-NAME_OBJECT.false) in it)) ∙ every-fails _ _ low)

pub returns-then-field_count-gt-MEMBER_LIMIT : goal.returns-then-field_count-gt-MEMBER_LIMIT
unfolding titled
returns-then-field_count-gt-MEMBER_LIMIT c =
    let many = lt-leb _ _ (rw c.field_count.ensures at c.if-field_count-gt-MEMBER_LIMIT.true) in
    sym (every_first _ _ ((let it : leb 2 (class_name c.args.bytes.now) ≡ true = le-leb _ _ (rw c.class_name.ensures at c.if-class_name-lt-NAME_OBJECT.false) in it)) ∙ every_first _ _ ((let it : leb 2 (super_name c.args.bytes.now) ≡ true = le-leb _ _ (rw c.super_name.ensures at c.if-super_name-lt-NAME_OBJECT.false) in it)) ∙ every-fails _ _ many)

pub returns : goal.returns
unfolding titled
returns c =
    rw c.method_count.ensures
    (sym
    (every_first _ _ ((let it : leb 2 (class_name c.args.bytes.now) ≡ true = le-leb _ _ (rw c.class_name.ensures at c.if-class_name-lt-NAME_OBJECT.false) in it))
    ∙ every_first _ _ ((let it : leb 2 (super_name c.args.bytes.now) ≡ true = le-leb _ _ (rw c.super_name.ensures at c.if-super_name-lt-NAME_OBJECT.false) in it))
    ∙ every_first _ _ ((let it : leb (field_count c.args.bytes.now) 8 ≡ true = le-leb _ _ (rw c.field_count.ensures at c.if-field_count-gt-MEMBER_LIMIT.false) in it))
    ∙ every-last _))
