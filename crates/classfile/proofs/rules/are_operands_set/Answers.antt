-- Before operand i is tested, the test of the types from i on says what the whole test says.
use mathlib.Core.Path.{sym, ap, ◌∙◌}
use borrow.Author.Tests.{le-leb, lt-leb}
use Rattle.definition.specs.Lists.{every}
use Rattle.layout.specs.Places.{rows_start}
use Rattle.classfile.specs.Lists.{every_more, every-not, every-end}
use Rattle.classfile.specs.Rules.{type_set, operands_set}
use Rattle.classfile.proofs.rules.are_operands_set.Goals as goal

pub loop-i-init : goal.loop-i-init
unfolding operands_set
loop-i-init c = rw c.map_depth-i-end.ensures (ap every (rows_start _ _))

pub returns-then-map_operand-lt1 : goal.returns-then-map_operand-lt1
unfolding type_set
returns-then-map_operand-lt1 c =
    let none = lt-leb _ _ (rw c.map_operand.ensures at c.if-map_operand-lt1.true) in
    sym (every-not _ _ _ c.loop-i-test.true none) ∙ c.loop-i.invariant

pub loop-i-preserved : goal.loop-i-preserved
unfolding type_set
loop-i-preserved c =
    let set = le-leb _ _ (rw c.map_operand.ensures at c.if-map_operand-lt1.false) in
    sym (every_more _ _ _ c.loop-i-test.true set) ∙ c.loop-i.invariant

pub returns : goal.returns
returns c = sym (every-end _ _ _ c.loop-i-test.false) ∙ c.loop-i.invariant
