-- The types that were read are those of the class's slots, so the row begins as a new object's.
use Rattle.execution.specs.Carried.{written_new}
use Rattle.execution.proofs.carrying.write_new.Goals as goal

pub returns : goal.returns
returns c = written_new _ _ _ _ _ _ _ _ c.slot_types-n.ensures.0 c.slot_types-n.ensures.1 c.requires c.write_object.ensures
