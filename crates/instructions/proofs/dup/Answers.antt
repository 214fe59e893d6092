-- dup puts the top operand above itself, and is refused if there is no room or no operand.
use Rattle.std.proofs.Common.{arith}
use Rattle.instructions.specs.Operands.{room-full, room-free, pop-none, pop-some}
use Rattle.instructions.specs.Plans.{meaning}
use Rattle.definition.specs.Answers.{◌>>=◌}
use Rattle.definition.specs.Machine.{execute}
use Rattle.definition.specs.Tables.{operand_at, frame_of}
use Rattle.layout.specs.Places.{stack_top}
use Rattle.instructions.proofs.dup.Goals as goal

pub returns-then-d-ge-OPERAND_LIMIT : goal.returns-then-d-ge-OPERAND_LIMIT
unfolding meaning execute ◌>>=◌ frame_of
returns-then-d-ge-OPERAND_LIMIT c = record { says = λ task w os fs k p n. rw (c.refuse.ensures, room-full _ _ c.if-d-ge-OPERAND_LIMIT.true); fits = λ few B t k m. rw c.refuse.ensures tt }

pub returns-then-d-eq0 : goal.returns-then-d-eq0
unfolding meaning execute ◌>>=◌ frame_of
returns-then-d-eq0 c = record { says = λ task w os fs k p n. rw (c.refuse-then-d-eq0.ensures, room-free _ _ c.if-d-ge-OPERAND_LIMIT.false, pop-none _ _ c.if-d-eq0.true); fits = λ few B t k m. rw c.refuse-then-d-eq0.ensures tt }

pub returns : goal.returns
unfolding meaning execute ◌>>=◌ frame_of
returns c = record { says = λ task w os fs k p n. rw (room-free _ _ c.if-d-ge-OPERAND_LIMIT.false, pop-some _ _ c.if-d-eq0.false, stack_top (operand_at c.args.frames.now c.args.top.base) c.args.top.depth (omega arith), ← c.operand-v.ensures); fits = λ few B t k m. omega arith }
