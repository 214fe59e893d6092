-- A receiver goes and the field type comes.
use mathlib.Core.Path.{sym, ◌∙◌}
use Rattle.definition.specs.Verifier.{effect}
use Rattle.verifier.specs.Types.{types_of}
use Rattle.verifier.proofs.TypeLaws.{popped-empty, popped-top}
use Rattle.definition.specs.Maybe.{◌>>=◌, need}
use Rattle.verifier.specs.Effects.{going}
use Rattle.verifier.specs.Answers.{outcome_of}
use Rattle.verifier.proofs.EffectLaws.{pushed-alone}
use Rattle.verifier.proofs.effects.getfield.Goals as goal

pub returns-then-not-named : goal.returns-then-not-named
unfolding outcome_of going effect types_of ◌>>=◌ need
returns-then-not-named c = rw (sym c.named.ensures ∙ c.if-not-named.true)

pub returns-in_err-receiver : goal.returns-in_err-receiver
unfolding outcome_of going effect types_of ◌>>=◌ need
returns-in_err-receiver c =
    rw (
      c.from_residual.ensures,
      sym c.named.ensures ∙ c.if-not-named.false,
      popped-empty _ _ _ c.pop.ensures c.in_err-receiver.was,
    )

pub returns : goal.returns
unfolding going effect types_of ◌>>=◌ need
returns c =
    rw (
      pushed-alone _ _ _ _,
      c.meet_class.ensures,
      c.type_of_name.ensures.0,
      sym c.named.ensures
          ∙ c.if-not-named.false,
      popped-top _ _ _ c.pop.ensures c.in_ok-receiver.was,
    )
