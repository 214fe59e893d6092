-- The name is compared, then the type.
use borrow.Author.Tests.{eq-eqb, ne_eqb}
use Rattle.classfile.specs.Reading.{field_is}
use Rattle.classfile.proofs.fields.is_field.Goals as goal

pub returns-then-field_name-name : goal.returns-then-field_name-name
unfolding field_is
returns-then-field_name-name c = rw (← c.field_name.ensures, ne_eqb _ _ c.if-field_name-name.true)

pub returns : goal.returns
unfolding field_is
returns c = rw (← c.field_name.ensures, eq-eqb _ _ c.if-field_name-name.false, ← c.field_type.ensures)
