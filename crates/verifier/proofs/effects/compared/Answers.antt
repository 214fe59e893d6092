-- Two ints go.
use Rattle.definition.specs.Verifier.{effect}
use Rattle.verifier.specs.Types.{types_of}
use Rattle.verifier.proofs.TypeLaws.{popped-empty, popped-top}
use Rattle.definition.specs.Maybe.{◌>>=◌}
use Rattle.verifier.specs.Effects.{notes_in, going}
use Rattle.verifier.specs.Trace.{meet_from, values_trace}
use Rattle.verifier.specs.Answers.{outcome_of}
use Rattle.verifier.proofs.EffectLaws.{int_is, int-not}
use Rattle.verifier.proofs.effects.compared.Goals as goal

pub returns-in_err-second : goal.returns-in_err-second
unfolding outcome_of going effect types_of ◌>>=◌
returns-in_err-second c o = rw (c.from_residual.ensures, popped-empty _ _ _ c.pop.ensures c.in_err-second.was)

pub returns-in_err-first : goal.returns-in_err-first
unfolding outcome_of going effect types_of ◌>>=◌
returns-in_err-first c o =
    rw (
      c.from_residual-in_err-first.ensures,
      popped-top _ _ _ c.pop.ensures c.in_ok-second.was,
      popped-empty _ _ _ c.pop-2.ensures c.in_err-first.was,
    )

pub returns-then-second-ne-INT : goal.returns-then-second-ne-INT
unfolding outcome_of going effect types_of ◌>>=◌
returns-then-second-ne-INT c o =
    rw (
      popped-top _ _ _ c.pop.ensures
          c.in_ok-second.was,
      popped-top _ _ _ c.pop-2.ensures c.in_ok-first.was,
      int-not _ c.if-second-ne-INT.true,
    )

pub returns-then-first-ne-INT : goal.returns-then-first-ne-INT
unfolding outcome_of going effect types_of ◌>>=◌
returns-then-first-ne-INT c o =
    rw (
      popped-top _ _ _ c.pop.ensures
          c.in_ok-second.was,
      popped-top _ _ _ c.pop-2.ensures c.in_ok-first.was,
      int_is _ c.if-second-ne-INT.false,
      int-not _ c.if-first-ne-INT.true,
    )

pub returns : goal.returns
unfolding outcome_of going effect types_of ◌>>=◌ notes_in values_trace meet_from
returns c o =
    rw (
      popped-top _ _ _ c.pop.ensures
          c.in_ok-second.was,
      popped-top _ _ _ c.pop-2.ensures c.in_ok-first.was,
      int_is _ c.if-second-ne-INT.false,
      int_is _ c.if-first-ne-INT.false,
    )
