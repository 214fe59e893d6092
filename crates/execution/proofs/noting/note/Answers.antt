-- A place that is known is remembered with a right fact, in tables that are long enough.
use Rattle.execution.specs.Facts.{noted}
use Rattle.execution.proofs.noting.note.Goals as goal

pub remember-requires : goal.remember-requires
remember-requires c = (c.place_at_hand.ensures _ c.in-Some.is).1

pub returns-in-Some : goal.returns-in-Some
returns-in-Some c = let z = c.place_at_hand.ensures _ c.in-Some.is in noted _ _ _ _ _ _ _ _ _ c.if-tags-lt-MEMORY_SIZE.false c.if-facts-lt-MEMORY_SIZE.false c.requires _ _ _ _ z.2 z.3 z.0 c.remember.ensures.0 c.remember.ensures.1
