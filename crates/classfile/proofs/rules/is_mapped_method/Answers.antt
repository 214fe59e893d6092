-- Version 1 has no maps.
use mathlib.Core.Path.{◌∙◌, ap}
use Rattle.definition.specs.Instructions.{pick}
use borrow.Author.Tests.{le-leb, lt-leb}
use Rattle.classfile.specs.Rules.{whole_maps, mapped_method}
use Rattle.classfile.proofs.rules.is_mapped_method.Goals as goal

pub returns-then-version-lt-VERSION_TWO : goal.returns-then-version-lt-VERSION_TWO
unfolding mapped_method pick
returns-then-version-lt-VERSION_TWO c =
    let low = lt-leb _ _ (rw c.version.ensures at c.if-version-lt-VERSION_TWO.true) in
    rw low

pub returns : goal.returns
unfolding mapped_method pick
returns c =
    let high = le-leb _ _ (rw c.version.ensures at c.if-version-lt-VERSION_TWO.false) in
    rw high (c.are_maps_whole.ensures ∙ ap whole_maps c.method_maps.ensures)
