-- The types are written from the last field to the first.
use Rattle.std.proofs.Math.Path.{sym}
use Rattle.std.proofs.Common.{◌∙◌}
use Rattle.layout.specs.Places.{rows-map}
use Rattle.classfile.specs.Reading.{field_count, field_in, quick_fields}
use Rattle.resolution.proofs.Laws.{write-end, write-last}
use Rattle.resolution.specs.Slots.{field_type}
use Rattle.resolution.proofs.fields.write_types.Goals as goal

pub loop-i-init : goal.loop-i-init
unfolding quick_fields
loop-i-init c = rw (c.field_count-i.ensures, rows-map field_type (field_in c.args.file.now) (field_count c.args.file.now) 0)

pub loop-i-preserved : goal.loop-i-preserved
loop-i-preserved c =
    rw (c.put.ensures, c.from.ensures, c.field_type.ensures) (sym (write-last _ _ _ _ c.loop-i-test.true) ∙ c.loop-i.invariant)

pub returns : goal.returns
returns c = sym (write-end _ _ _ _ c.loop-i-test.false) ∙ c.loop-i.invariant
