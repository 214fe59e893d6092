-- Before field i is tested, the test of the fields from i on says what the whole test says.
use mathlib.Core.Path.{sym, ap, ◌∙◌}
use Rattle.definition.specs.Lists.{every}
use Rattle.layout.specs.Places.{rows_start}
use Rattle.classfile.specs.Lists.{every_more, every-not, every-end}
use Rattle.classfile.specs.Rules.{named_fields}
use Rattle.classfile.proofs.rules.are_fields_named.Goals as goal

pub loop-i-init : goal.loop-i-init
unfolding named_fields
loop-i-init c = rw c.field_count-i-end.ensures (ap every (rows_start _ _))

pub returns-then-not-is_named_field : goal.returns-then-not-is_named_field
returns-then-not-is_named_field c =
    let none = sym c.is_named_field.ensures ∙ c.if-not-is_named_field.true in
    sym (every-not _ _ _ c.loop-i-test.true none) ∙ c.loop-i.invariant

pub loop-i-preserved : goal.loop-i-preserved
loop-i-preserved c =
    let named = sym c.is_named_field.ensures ∙ c.if-not-is_named_field.false in
    sym (every_more _ _ _ c.loop-i-test.true named) ∙ c.loop-i.invariant

pub returns : goal.returns
returns c = sym (every-end _ _ _ c.loop-i-test.false) ∙ c.loop-i.invariant
