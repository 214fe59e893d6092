-- An operator puts what it makes of the two top operands in their place; it is refused if they are not two ints.
use Rattle.std.proofs.Common.{arith}
use Rattle.instructions.specs.Operands.{pop-none, pop-some, int_is, int-not}
use Rattle.instructions.specs.Plans.{meaning, computed-means, computed_fits}
use Rattle.definition.specs.Answers.{◌>>=◌}
use Rattle.definition.specs.Machine.{execute}
use Rattle.definition.specs.Tables.{frame_of}
use Rattle.instructions.proofs.arithmetic.Goals as goal

pub returns-then-d-eq0 : goal.returns-then-d-eq0
unfolding meaning execute ◌>>=◌ frame_of
returns-then-d-eq0 c = record { says = λ task w os fs k p n. rw (c.refuse.ensures, pop-none _ _ c.if-d-eq0.true); fits = λ few B t k m. rw c.refuse.ensures tt }

pub returns-then-e-eq0 : goal.returns-then-e-eq0
unfolding meaning execute ◌>>=◌ frame_of
returns-then-e-eq0 c = record { says = λ task w os fs k p n. rw (c.refuse-then-e-eq0.ensures, pop-some _ _ c.if-d-eq0.false, pop-none _ _ c.if-e-eq0.true); fits = λ few B t k m. rw c.refuse-then-e-eq0.ensures tt }

pub returns-then-y-ne-KIND_INT : goal.returns-then-y-ne-KIND_INT
unfolding meaning execute ◌>>=◌ frame_of
returns-then-y-ne-KIND_INT c = record { says = λ task w os fs k p n. rw (c.refuse-then-y-ne-KIND_INT.ensures, pop-some _ _ c.if-d-eq0.false, pop-some _ _ c.if-e-eq0.false, ← c.operand-y.ensures, int-not _ _ c.if-y-ne-KIND_INT.true); fits = λ few B t k m. rw c.refuse-then-y-ne-KIND_INT.ensures tt }

pub returns-then-x-ne-KIND_INT : goal.returns-then-x-ne-KIND_INT
unfolding meaning execute ◌>>=◌ frame_of
returns-then-x-ne-KIND_INT c =
    record { says = λ task w os fs k p n. rw (c.refuse-then-x-ne-KIND_INT.ensures, pop-some _ _ c.if-d-eq0.false, pop-some _ _ c.if-e-eq0.false, ← c.operand-y.ensures, int_is _ _ c.if-y-ne-KIND_INT.false, ← c.operand-x.ensures, int-not _ _ c.if-x-ne-KIND_INT.true); fits = λ few B t k m. rw c.refuse-then-x-ne-KIND_INT.ensures tt }

pub returns : goal.returns
unfolding execute ◌>>=◌ frame_of
returns c =
    record {
      says = λ task w os fs k p n. rw (
        c.compute.ensures,
        computed-means task w os fs _ _ _ _ _,
        pop-some _ _ c.if-d-eq0.false,
        pop-some _ _ c.if-e-eq0.false,
        ← c.operand-y.ensures,
        int_is _ _ c.if-y-ne-KIND_INT.false,
        ← c.operand-x.ensures,
        int_is _ _ c.if-x-ne-KIND_INT.false,
      );
      fits = λ few B t k m. rw c.compute.ensures (computed_fits B t k m _ _ (omega arith));
    }
