-- The fields are searched from the first on. Before field i is compared, the search from field i on finds what the whole search finds.
use mathlib.Core.Path.{sym, ap, ◌∙◌}
use Rattle.classfile.specs.Lists.{find-here, find-later, find-end, find-start}
use Rattle.cells.specs.Optional.{optional}
use Rattle.classfile.specs.Reading.{quick_fields}
use Rattle.classfile.proofs.fields.find_field.Goals as goal

pub loop-i-init : goal.loop-i-init
unfolding quick_fields
loop-i-init c = rw c.field_count-i-end.ensures (find-start _ _ _)

pub returns-then-is_field : goal.returns-then-is_field
returns-then-is_field c =
    let found = sym c.is_field.ensures ∙ c.if-is_field.true in
    ap optional (sym (find-here _ _ _ _ c.loop-i-test.true found) ∙ c.loop-i.invariant)

pub loop-i-preserved : goal.loop-i-preserved
loop-i-preserved c =
    let other = sym c.is_field.ensures ∙ c.if-is_field.false in
    sym (find-later _ _ _ _ c.loop-i-test.true other) ∙ c.loop-i.invariant

pub returns : goal.returns
returns c = ap optional (sym (find-end _ _ _ _ c.loop-i-test.false) ∙ c.loop-i.invariant)
