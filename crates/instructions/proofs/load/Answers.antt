-- A load puts a local above the operands; it is refused if there is no room, no such local, or no value of its kind in it.
use Rattle.std.proofs.Common.{sym, ◌∙◌, arith}
use Rattle.instructions.specs.Operands.{room-full, room-free, take_past, take_at, of_is, of-not}
use Rattle.instructions.specs.Plans.{meaning}
use Rattle.definition.specs.Answers.{◌>>=◌}
use Rattle.definition.specs.Machine.{execute}
use Rattle.definition.specs.Tables.{frame_of}
use Rattle.instructions.proofs.load.Goals as goal

pub returns-then-d-ge-OPERAND_LIMIT : goal.returns-then-d-ge-OPERAND_LIMIT
unfolding meaning execute ◌>>=◌ frame_of
returns-then-d-ge-OPERAND_LIMIT c = record { says = λ task w os fs k p n. rw (c.refuse.ensures, room-full _ _ c.if-d-ge-OPERAND_LIMIT.true); fits = λ few B t k m. rw c.refuse.ensures tt }

pub returns-then-j-ge-LOCAL_COUNT : goal.returns-then-j-ge-LOCAL_COUNT
unfolding meaning execute ◌>>=◌ frame_of
returns-then-j-ge-LOCAL_COUNT c = record { says = λ task w os fs k p n. rw (c.refuse-then-j-ge-LOCAL_COUNT.ensures, room-free _ _ c.if-d-ge-OPERAND_LIMIT.false, take_past _ _ _ _ c.if-j-ge-LOCAL_COUNT.true); fits = λ few B t k m. rw c.refuse-then-j-ge-LOCAL_COUNT.ensures tt }

pub returns-then-not-is_of_kind : goal.returns-then-not-is_of_kind
unfolding meaning execute ◌>>=◌ frame_of
returns-then-not-is_of_kind c = record { says = λ task w os fs k p n. rw (c.refuse-then-not-is_of_kind.ensures, room-free _ _ c.if-d-ge-OPERAND_LIMIT.false, take_at _ _ _ _ c.if-j-ge-LOCAL_COUNT.false, ← c.local-v.ensures, of-not _ _ _ (sym c.is_of_kind.ensures ∙ c.if-not-is_of_kind.true)); fits = λ few B t k m. rw c.refuse-then-not-is_of_kind.ensures tt }

pub returns : goal.returns
unfolding meaning execute ◌>>=◌ frame_of
returns c = record { says = λ task w os fs k p n. rw (room-free _ _ c.if-d-ge-OPERAND_LIMIT.false, take_at _ _ _ _ c.if-j-ge-LOCAL_COUNT.false, ← c.local-v.ensures, of_is _ _ _ (sym c.is_of_kind.ensures ∙ c.if-not-is_of_kind.false)); fits = λ few B t k m. omega arith }
