-- An int goes.
use Rattle.definition.specs.Verifier.{effect}
use Rattle.verifier.specs.Types.{types_of}
use Rattle.verifier.proofs.TypeLaws.{popped-empty, popped-top}
use Rattle.definition.specs.Maybe.{◌>>=◌}
use Rattle.verifier.specs.Effects.{notes_in, going}
use Rattle.verifier.specs.Trace.{meet_from, values_trace}
use Rattle.verifier.specs.Answers.{outcome_of}
use Rattle.verifier.proofs.EffectLaws.{int_is, int-not}
use Rattle.verifier.proofs.effects.compared_with_zero.Goals as goal

pub returns-in_err-last : goal.returns-in_err-last
unfolding outcome_of going effect types_of ◌>>=◌
returns-in_err-last c o = rw (c.from_residual.ensures, popped-empty _ _ _ c.pop.ensures c.in_err-last.was)

pub returns-then-last-ne-INT : goal.returns-then-last-ne-INT
unfolding outcome_of going effect types_of ◌>>=◌
returns-then-last-ne-INT c o =
    rw (
      popped-top _ _ _ c.pop.ensures c.in_ok-last.was,
      int-not _ c.if-last-ne-INT.true,
    )

pub returns : goal.returns
unfolding outcome_of going effect types_of ◌>>=◌ notes_in values_trace meet_from
returns c o =
    rw (
      popped-top _ _ _ c.pop.ensures c.in_ok-last.was,
      int_is _ c.if-last-ne-INT.false,
    )
