-- The last operand goes.
use Rattle.definition.specs.Verifier.{effect}
use Rattle.verifier.specs.Types.{types_of}
use Rattle.verifier.proofs.TypeLaws.{popped-empty, popped-top}
use Rattle.definition.specs.Maybe.{◌>>=◌}
use Rattle.verifier.specs.Effects.{notes_in, going}
use Rattle.verifier.specs.Trace.{meet_from, values_trace}
use Rattle.verifier.specs.Answers.{outcome_of}
use Rattle.verifier.proofs.effects.drop.Goals as goal

pub returns-in_err-last : goal.returns-in_err-last
unfolding outcome_of going effect types_of ◌>>=◌
returns-in_err-last c = rw (c.from_residual.ensures, popped-empty _ _ _ c.pop.ensures c.in_err-last.was)

pub returns : goal.returns
unfolding outcome_of going effect types_of ◌>>=◌ notes_in values_trace meet_from
returns c = rw (popped-top _ _ _ c.pop.ensures c.in_ok-last.was)
