-- The report made one object more just if it was its turn and the lowest number unused moved.
use native.Mathlib.Omega.{arith}
use borrow.Author.Tests.{eq-eqb, ne_eqb}
use Rattle.definition.specs.Instructions.{pick}
use Rattle.execution.specs.Runs.{made_next}
use Rattle.execution.proofs.runs.next_room.Goals as goal

pub returns-then-turn-eq0 : goal.returns-then-turn-eq0
unfolding made_next pick
returns-then-turn-eq0 c = (c.unused-free.ensures, rw (eq-eqb _ _ c.if-turn-eq0.true))

pub returns-then-free-room : goal.returns-then-free-room
unfolding made_next pick
returns-then-free-room c = (c.unused-free.ensures, rw (ne_eqb _ _ c.if-turn-eq0.false, eq-eqb _ _ c.if-free-room.true))

pub returns : goal.returns
unfolding made_next pick
returns c = (c.unused-free.ensures, rw (ne_eqb _ _ c.if-turn-eq0.false, ne_eqb _ _ c.if-free-room.false) (omega arith))
