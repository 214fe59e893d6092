-- A return gives a value of its kind to the frame below, or finishes the task with an int; it is refused if that frame has no room, or if the top operand is not of
-- its kind, or no int in a first frame.
use Rattle.std.proofs.Common.{sym, ◌∙◌, arith}
use Rattle.instructions.specs.Operands.{pop-none, pop-some, int_is, int-not, of_is, of-not, under-room, room-below}
use Rattle.instructions.specs.Plans.{meaning}
use Rattle.definition.specs.Answers.{◌>>=◌, need}
use Rattle.definition.specs.Lists.{stack}
use Rattle.definition.specs.Machine.{give, execute}
use Rattle.definition.specs.Tables.{frame_of}
use Rattle.instructions.proofs.give_back.Goals as goal

pub returns-then-not-has_room_below : goal.returns-then-not-has_room_below
unfolding meaning execute ◌>>=◌ frame_of need
returns-then-not-has_room_below c = record { says = λ w os kl p n. rw (c.refuse.ensures, under-room _ _ _, sym c.has_room_below.ensures ∙ c.if-not-has_room_below.true); fits = λ B t e. rw c.refuse.ensures tt }

pub returns-then-d-eq0 : goal.returns-then-d-eq0
unfolding meaning execute ◌>>=◌ frame_of need
returns-then-d-eq0 c = record { says = λ w os kl p n. rw (c.refuse-then-d-eq0.ensures, under-room _ _ _, sym c.has_room_below.ensures ∙ c.if-not-has_room_below.false, pop-none _ _ c.if-d-eq0.true); fits = λ B t e. rw c.refuse-then-d-eq0.ensures tt }

pub returns-then-not-is_of_kind : goal.returns-then-not-is_of_kind
unfolding meaning execute ◌>>=◌ frame_of need
returns-then-not-is_of_kind c = record { says = λ w os kl p n. rw (c.refuse-then-not-is_of_kind.ensures, under-room _ _ _, sym c.has_room_below.ensures ∙ c.if-not-has_room_below.false, pop-some _ _ c.if-d-eq0.false, ← c.operand-v.ensures, of-not _ _ _ (sym c.is_of_kind.ensures ∙ c.if-not-is_of_kind.true)); fits = λ B t e. rw c.refuse-then-not-is_of_kind.ensures tt }

pub returns-then-top-ne0 : goal.returns-then-top-ne0
unfolding meaning execute ◌>>=◌ frame_of need
returns-then-top-ne0 c =
    record {
      says = λ w os kl p n. rw (
        under-room _ _ _,
        sym c.has_room_below.ensures ∙ c.if-not-has_room_below.false,
        pop-some _ _ c.if-d-eq0.false,
        ← c.operand-v.ensures,
        of_is _ _ _ (sym c.is_of_kind.ensures ∙ c.if-not-is_of_kind.false),
      );
      fits = λ B t e. (omega (arith, c.if-top-ne0.true), rw e (room-below _ _ _ (sym c.has_room_below.ensures ∙ c.if-not-has_room_below.false) c.if-top-ne0.true));
    }

pub returns-then-v-ne-KIND_INT : goal.returns-then-v-ne-KIND_INT
unfolding meaning execute ◌>>=◌ frame_of need give stack
returns-then-v-ne-KIND_INT c =
    record {
      says = λ w os kl p n. rw (
        c.refuse-then-v-ne-KIND_INT.ensures,
        under-room _ _ _,
        sym c.has_room_below.ensures ∙ c.if-not-has_room_below.false,
        pop-some _ _ c.if-d-eq0.false,
        ← c.operand-v.ensures,
        of_is _ _ _ (sym c.is_of_kind.ensures ∙ c.if-not-is_of_kind.false),
        c.if-top-ne0.false,
        int-not _ _ c.if-v-ne-KIND_INT.true,
      );
      fits = λ B t e. rw c.refuse-then-v-ne-KIND_INT.ensures tt;
    }

pub returns : goal.returns
unfolding meaning execute ◌>>=◌ frame_of need give stack
returns c =
    record {
      says = λ w os kl p n. rw (
        under-room _ _ _,
        sym c.has_room_below.ensures ∙ c.if-not-has_room_below.false,
        pop-some _ _ c.if-d-eq0.false,
        ← c.operand-v.ensures,
        of_is _ _ _ (sym c.is_of_kind.ensures ∙ c.if-not-is_of_kind.false),
        c.if-top-ne0.false,
        int_is _ _ c.if-v-ne-KIND_INT.false,
      );
      fits = λ B t e. c.if-top-ne0.false;
    }
