-- Before field i is compared with the later ones, two of the fields from i on have one name exactly if two of all have.
use mathlib.Core.Path.{sym, ap, ◌∙◌}
use Rattle.definition.specs.Lists.{doubled}
use Rattle.definition.specs.File.{same_field}
use Rattle.layout.specs.Places.{rows_start}
use Rattle.classfile.specs.Lists.{doubled-row, doubled-more, doubled-end}
use Rattle.classfile.specs.Reading.{quick_fields, field_named}
use Rattle.classfile.proofs.rules.is_field_doubled.Goals as goal

pub loop-i-init : goal.loop-i-init
unfolding quick_fields
loop-i-init c = rw c.field_count-i-end.ensures (ap (doubled same_field) (rows_start _ _))

pub returns-then-named_from : goal.returns-then-named_from
unfolding same_field field_named
returns-then-named_from c =
    let count = c.field_count-i-end.ensures in
    let later = sym (rw c.field_name.ensures at c.named_from.ensures) ∙ c.if-named_from.true in
    sym (doubled-row _ _ _ _ c.loop-i-test.true (rw count later)) ∙ c.loop-i.invariant

pub loop-i-preserved : goal.loop-i-preserved
unfolding same_field field_named
loop-i-preserved c =
    let count = c.field_count-i-end.ensures in
    let never = sym (rw c.field_name.ensures at c.named_from.ensures) ∙ c.if-named_from.false in
    sym (doubled-more _ _ _ _ c.loop-i-test.true (rw count never)) ∙ c.loop-i.invariant

pub returns : goal.returns
returns c = sym (doubled-end _ _ _ _ c.loop-i-test.false) ∙ c.loop-i.invariant
