-- A store takes the top operand into a local; it is refused if there is no operand, if it is not of its kind, or if there is no such local.
use Rattle.std.proofs.Common.{sym, ◌∙◌}
use Rattle.instructions.specs.Operands.{pop-none, pop-some, take_past, take_at, of_is, of-not}
use Rattle.instructions.specs.Plans.{meaning}
use Rattle.definition.specs.Answers.{◌>>=◌}
use Rattle.definition.specs.Machine.{execute}
use Rattle.definition.specs.Tables.{frame_of}
use Rattle.instructions.proofs.store.Goals as goal

pub returns-then-d-eq0 : goal.returns-then-d-eq0
unfolding meaning execute ◌>>=◌ frame_of
returns-then-d-eq0 c = record { says = λ task w os fs k p n. rw (c.refuse.ensures, pop-none _ _ c.if-d-eq0.true); fits = λ few B t k m. rw c.refuse.ensures tt }

pub returns-then-not-is_of_kind : goal.returns-then-not-is_of_kind
unfolding meaning execute ◌>>=◌ frame_of
returns-then-not-is_of_kind c = record { says = λ task w os fs k p n. rw (c.refuse-then-not-is_of_kind.ensures, pop-some _ _ c.if-d-eq0.false, ← c.operand-v.ensures, of-not _ _ _ (sym c.is_of_kind.ensures ∙ c.if-not-is_of_kind.true)); fits = λ few B t k m. rw c.refuse-then-not-is_of_kind.ensures tt }

pub returns-then-j-ge-LOCAL_COUNT : goal.returns-then-j-ge-LOCAL_COUNT
unfolding meaning execute ◌>>=◌ frame_of
returns-then-j-ge-LOCAL_COUNT c = record { says = λ task w os fs k p n. rw (c.refuse-then-j-ge-LOCAL_COUNT.ensures, pop-some _ _ c.if-d-eq0.false, ← c.operand-v.ensures, of_is _ _ _ (sym c.is_of_kind.ensures ∙ c.if-not-is_of_kind.false), take_past _ _ _ _ c.if-j-ge-LOCAL_COUNT.true); fits = λ few B t k m. rw c.refuse-then-j-ge-LOCAL_COUNT.ensures tt }

pub returns : goal.returns
unfolding meaning execute ◌>>=◌ frame_of
returns c = record { says = λ task w os fs k p n. rw (pop-some _ _ c.if-d-eq0.false, ← c.operand-v.ensures, of_is _ _ _ (sym c.is_of_kind.ensures ∙ c.if-not-is_of_kind.false), take_at _ _ _ _ c.if-j-ge-LOCAL_COUNT.false); fits = λ few B t k m. c.if-j-ge-LOCAL_COUNT.false }
