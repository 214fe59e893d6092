-- ifeq jumps if the top operand, which it takes away, is 0; it is refused if that is no int.
use Rattle.instructions.specs.Operands.{pop-none, pop-some, int_is, int-not}
use Rattle.instructions.specs.Plans.{meaning, jumped-means, jumped-fits}
use Rattle.definition.specs.Answers.{◌>>=◌}
use Rattle.definition.specs.Machine.{jumps, execute}
use Rattle.definition.specs.Tables.{frame_of}
use Rattle.instructions.proofs.if_zero.Goals as goal

pub returns-then-d-eq0 : goal.returns-then-d-eq0
unfolding meaning execute jumps ◌>>=◌ frame_of
returns-then-d-eq0 c = record { says = λ task w os fs k p n. rw (c.refuse.ensures, pop-none _ _ c.if-d-eq0.true); fits = λ few B t k m. rw c.refuse.ensures tt }

pub returns-then-x-ne-KIND_INT : goal.returns-then-x-ne-KIND_INT
unfolding meaning execute jumps ◌>>=◌ frame_of
returns-then-x-ne-KIND_INT c = record { says = λ task w os fs k p n. rw (c.refuse-then-x-ne-KIND_INT.ensures, pop-some _ _ c.if-d-eq0.false, ← c.operand-x.ensures, int-not _ _ c.if-x-ne-KIND_INT.true); fits = λ few B t k m. rw c.refuse-then-x-ne-KIND_INT.ensures tt }

pub returns : goal.returns
unfolding execute jumps ◌>>=◌ frame_of
returns c = record {
  says = λ task w os fs k p n. rw (
    c.jump_if.ensures,
    jumped-means task w os fs _ _ _ _ _ _,
    pop-some _ _ c.if-d-eq0.false,
    ← c.operand-x.ensures,
    int_is _ _ c.if-x-ne-KIND_INT.false,
  );
  fits = λ few B t k m. rw c.jump_if.ensures (jumped-fits B t k m _ _ _);
}
