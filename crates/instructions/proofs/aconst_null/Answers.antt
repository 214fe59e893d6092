-- aconst_null puts null above the operands, and is refused if there is no room.
use Rattle.std.proofs.Common.{arith}
use Rattle.instructions.specs.Operands.{room-full, room-free}
use Rattle.instructions.specs.Plans.{meaning}
use Rattle.definition.specs.Answers.{◌>>=◌}
use Rattle.definition.specs.Instructions.{pick}
use Rattle.definition.specs.Machine.{execute}
use Rattle.definition.specs.Tables.{value_of, frame_of}
use Rattle.instructions.proofs.aconst_null.Goals as goal

pub returns-then-d-ge-OPERAND_LIMIT : goal.returns-then-d-ge-OPERAND_LIMIT
unfolding meaning execute ◌>>=◌ frame_of
returns-then-d-ge-OPERAND_LIMIT c = λ F b. record { says = λ task w os fs k p n. rw (c.refuse.ensures, room-full _ _ c.if-d-ge-OPERAND_LIMIT.true); fits = λ few B t k m. rw c.refuse.ensures tt }

pub returns : goal.returns
unfolding meaning execute ◌>>=◌ frame_of value_of pick
returns c = λ F b. record { says = λ task w os fs k p n. rw (room-free _ _ c.if-d-ge-OPERAND_LIMIT.false); fits = λ few B t k m. omega arith }
