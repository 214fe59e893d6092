-- A value of the kind is popped and set in a local that is there.
use Rattle.definition.specs.Verifier.{effect}
use Rattle.verifier.specs.Types.{types_of}
use Rattle.verifier.proofs.TypeLaws.{popped-empty, popped-top, local-at, local-past}
use Rattle.definition.specs.Maybe.{◌>>=◌}
use Rattle.verifier.specs.Effects.{going}
use Rattle.verifier.specs.Answers.{outcome_of}
use Rattle.verifier.proofs.EffectLaws.{of-kind, off-kind}
use mathlib.Core.Path.{ap}
use mathlib.Core.Bool.{not}
use Rattle.verifier.proofs.effects.store.Goals as goal

pub returns-in_err-last : goal.returns-in_err-last
unfolding outcome_of going effect types_of ◌>>=◌
returns-in_err-last c = rw (c.from_residual.ensures, popped-empty _ _ _ c.pop.ensures c.in_err-last.was)

pub returns-then-not-of_kind : goal.returns-then-not-of_kind
unfolding outcome_of going effect types_of ◌>>=◌
returns-then-not-of_kind c =
    rw (
      popped-top _ _ _ c.pop.ensures c.in_ok-last.was,
      off-kind _ _ _ c.of_kind.ensures (ap not c.if-not-of_kind.true),
    )

pub returns-then-place-ge-LOCALS : goal.returns-then-place-ge-LOCALS
unfolding outcome_of going effect types_of ◌>>=◌
returns-then-place-ge-LOCALS c =
    rw (
      popped-top _ _ _ c.pop.ensures c.in_ok-last.was,
      of-kind _ _ _ c.of_kind.ensures (ap not c.if-not-of_kind.false),
      ← c.from-place.ensures,
      local-past _ _ c.if-place-ge-LOCALS.true,
    )

pub returns : goal.returns
unfolding outcome_of going effect types_of ◌>>=◌
returns c =
    rw (
      popped-top _ _ _ c.pop.ensures
          c.in_ok-last.was,
      of-kind _ _ _ c.of_kind.ensures (ap not c.if-not-of_kind.false),
      ← c.from-place.ensures,
      local-at _ _ c.if-place-ge-LOCALS.false,
      c.stored.ensures,
    )
