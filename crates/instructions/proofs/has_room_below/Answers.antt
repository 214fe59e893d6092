-- The frame below has room for a result if it has fewer than 16 operands; a first frame needs none.
use borrow.Author.Tests.{eq-eqb, ne_eqb}
use Rattle.definition.specs.Instructions.{pick}
use Rattle.instructions.specs.Operands.{room_below}
use Rattle.instructions.proofs.has_room_below.Goals as goal

pub returns-then-top-eq0 : goal.returns-then-top-eq0
unfolding room_below pick
returns-then-top-eq0 c = rw (eq-eqb _ _ c.if-top-eq0.true)

pub returns-else-top-eq0 : goal.returns-else-top-eq0
unfolding room_below pick
returns-else-top-eq0 c = rw (ne_eqb _ _ c.if-top-eq0.false, ← c.row.ensures, ← c.depth.ensures)
