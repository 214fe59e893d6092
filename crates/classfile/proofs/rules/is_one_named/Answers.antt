-- The name, the argument's type and the result's are looked at in turn, each as it was read.
use mathlib.Core.Path.{sym, ◌∙◌}
use borrow.Author.Tests.{le-leb, lt-leb}
use Rattle.classfile.specs.Lists.{every_first, every-fails, every-last}
use Rattle.classfile.proofs.Laws.{one-named}
use Rattle.classfile.proofs.rules.is_one_named.Goals as goal

pub returns-then-short_at-lt1 : goal.returns-then-short_at-lt1
returns-then-short_at-lt1 c =
    let name = lt-leb _ _ (rw (c.short_at.ensures) at c.if-short_at-lt1.true) in
    sym (one-named _ _ c.requires ∙ every-fails _ _ name)

pub returns-then-short_at-lt1-2 : goal.returns-then-short_at-lt1-2
returns-then-short_at-lt1-2 c =
    let name = le-leb _ _ (rw (c.short_at.ensures) at c.if-short_at-lt1.false) in
    let argument = lt-leb _ _ (rw (c.short_at-2.ensures) at c.if-short_at-lt1-2.true) in
    sym (one-named _ _ c.requires ∙ every_first _ _ name ∙ every-fails _ _ argument)

pub returns : goal.returns
returns c =
    let name = le-leb _ _ (rw (c.short_at.ensures) at c.if-short_at-lt1.false) in
    let argument = le-leb _ _ (rw (c.short_at-2.ensures) at c.if-short_at-lt1-2.false) in
    rw (c.short_at-3.ensures) (sym (one-named _ _ c.requires ∙ every_first _ _ name ∙ every_first _ _ argument ∙ every-last _))
