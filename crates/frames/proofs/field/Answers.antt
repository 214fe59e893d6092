-- A field is read from its two cells in the object's row.
use Rattle.definition.specs.Tables.{field_at}
use Rattle.frames.proofs.field.Goals as goal

pub returns : goal.returns
unfolding field_at
returns c = rw (← c.from.ensures) c.pair.ensures
