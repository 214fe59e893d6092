-- A value and a receiver go.
use mathlib.Core.Path.{sym, ap, ◌∙◌}
use Rattle.definition.specs.Verifier.{effect, meet_class}
use Rattle.verifier.specs.Types.{type_of, types_of}
use Rattle.verifier.proofs.TypeLaws.{popped-empty, popped-top}
use Rattle.verifier.proofs.ValueLaws.{one_value, nothing}
use Rattle.definition.specs.Maybe.{◌>>=◌, need}
use Rattle.verifier.specs.Effects.{going}
use Rattle.verifier.specs.Trace.{granted}
use Rattle.verifier.specs.Answers.{outcome_of}
use Rattle.verifier.proofs.effects.putfield.Goals as goal

pub returns-then-not-named : goal.returns-then-not-named
unfolding outcome_of going effect types_of ◌>>=◌ need
returns-then-not-named c = rw (sym c.named.ensures ∙ c.if-not-named.true)

pub returns-in_err-value : goal.returns-in_err-value
unfolding outcome_of going effect types_of ◌>>=◌ need
returns-in_err-value c =
    rw (
      c.from_residual.ensures,
      sym c.named.ensures ∙ c.if-not-named.false,
      popped-empty _ _ _ c.pop.ensures c.in_err-value.was,
    )

pub returns-in_err-receiver : goal.returns-in_err-receiver
unfolding outcome_of going effect types_of ◌>>=◌ need
returns-in_err-receiver c =
    rw (
      c.from_residual-in_err-receiver.ensures,
      sym c.named.ensures
          ∙ c.if-not-named.false,
      popped-top _ _ _ c.pop.ensures c.in_ok-value.was,
      popped-empty _ _ _ c.pop-2.ensures c.in_err-receiver.was,
    )

pub returns-then-not-are_met : goal.returns-then-not-are_met
unfolding outcome_of going effect types_of granted ◌>>=◌ need
returns-then-not-are_met c =
    let args = c.args in
    let top = popped-top _ _ _ c.pop.ensures c.in_ok-value.was in
    let below = popped-top _ _ _ c.pop-2.ensures c.in_ok-receiver.was in
    rw (
      sym c.named.ensures ∙ c.if-not-named.false,
      top,
      below,
      one_value args.types.operands args.t _ _ _ _ _ top below _ _ c.are_met.ensures c.if-not-are_met.true,
    )
    (ap going (sym (nothing (meet_class args.c (type_of c.in_ok-receiver.receiver.top)))))

pub returns : goal.returns
unfolding outcome_of going effect types_of granted ◌>>=◌ need
returns c =
    let args = c.args in
    let top = popped-top _ _ _ c.pop.ensures c.in_ok-value.was in
    let below = popped-top _ _ _ c.pop-2.ensures c.in_ok-receiver.was in
    rw (
      sym c.named.ensures ∙ c.if-not-named.false,
      top,
      below,
      c.meet_class.ensures,
      one_value args.types.operands args.t _ _ _ _ _ top below _ _ c.are_met.ensures c.if-not-are_met.false,
    )
