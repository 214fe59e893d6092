-- A local that is set and of the kind is pushed.
use Rattle.verifier.specs.Types.{types_of}
use Rattle.definition.specs.Maybe.{◌>>=◌}
use Rattle.verifier.specs.Effects.{notes_in, going}
use Rattle.verifier.specs.Trace.{meet_from, values_trace}
use Rattle.verifier.specs.Answers.{outcome_of}
use Rattle.verifier.proofs.EffectLaws.{of-kind, off-kind, load-unset, load_set}
use mathlib.Core.Path.{ap}
use mathlib.Core.Bool.{not}
use Rattle.verifier.proofs.effects.load.Goals as goal

pub returns-then-t-eq-UNSET : goal.returns-then-t-eq-UNSET
unfolding outcome_of going
returns-then-t-eq-UNSET c = rw (load-unset c.args.types _ _ _ c.local-t.ensures c.if-t-eq-UNSET.true)

pub returns-then-not-of_kind : goal.returns-then-not-of_kind
unfolding outcome_of going ◌>>=◌
returns-then-not-of_kind c =
    rw (
      load_set c.args.types _ _ _ c.local-t.ensures c.if-t-eq-UNSET.false,
      off-kind _ _ _ c.of_kind.ensures (ap not c.if-not-of_kind.true),
    )

pub returns : goal.returns
unfolding outcome_of going types_of notes_in values_trace meet_from ◌>>=◌
returns c =
    rw (
      c.push.ensures,
      load_set c.args.types _ _ _ c.local-t.ensures
          c.if-t-eq-UNSET.false,
      of-kind _ _ _ c.of_kind.ensures (ap not c.if-not-of_kind.false),
    )
