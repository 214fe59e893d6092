-- A value is returned where its kind and its type fit the result type.
use Rattle.definition.specs.Verifier.{returns as returning}
use Rattle.verifier.specs.Types.{types_of}
use Rattle.verifier.proofs.TypeLaws.{popped-empty, popped-top}
use Rattle.definition.specs.Maybe.{◌>>=◌}
use Rattle.verifier.specs.Effects.{ending}
use Rattle.verifier.specs.Answers.{outcome_of}
use mathlib.Core.Path.{sym}
use Rattle.verifier.proofs.EffectLaws.{of-kind, off-kind}
use mathlib.Core.Path.{ap}
use mathlib.Core.Bool.{not}
use Rattle.verifier.proofs.effects.give_back.Goals as goal

pub returns-then-not-of_kind : goal.returns-then-not-of_kind
unfolding outcome_of ending returning ◌>>=◌
returns-then-not-of_kind c = rw (sym c.type_of_name.ensures.0, off-kind _ _ _ c.of_kind.ensures (ap not c.if-not-of_kind.true))

pub returns-in_err-last : goal.returns-in_err-last
unfolding outcome_of ending returning types_of ◌>>=◌
returns-in_err-last c =
    rw (
      c.from_residual.ensures,
      sym c.type_of_name.ensures.0,
      of-kind _ _ _ c.of_kind.ensures (ap not c.if-not-of_kind.false),
      popped-empty _ _ _ c.pop.ensures c.in_err-last.was,
    )

pub returns : goal.returns
unfolding outcome_of ending returning types_of ◌>>=◌
returns c =
    rw (
      sym c.type_of_name.ensures.0,
      of-kind _ _ _ c.of_kind.ensures (ap not c.if-not-of_kind.false),
      popped-top _ _ _ c.pop.ensures c.in_ok-last.was,
      c.meet_name.ensures,
    )
