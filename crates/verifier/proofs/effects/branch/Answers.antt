-- A goto takes nothing.
use Rattle.definition.specs.Verifier.{effect}
use Rattle.definition.specs.Maybe.{◌>>=◌}
use Rattle.verifier.specs.Types.{types_of}
use Rattle.verifier.specs.Effects.{notes_in, going}
use Rattle.verifier.specs.Trace.{meet_from, values_trace}
use Rattle.verifier.specs.Answers.{outcome_of}
use Rattle.verifier.proofs.effects.branch.Goals as goal

pub returns-in-Always : goal.returns-in-Always
unfolding outcome_of going effect types_of ◌>>=◌ notes_in values_trace meet_from
returns-in-Always c p = rw c.in-Always.is
