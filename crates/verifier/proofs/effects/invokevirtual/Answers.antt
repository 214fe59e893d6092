-- The arguments and the receiver below them go, and the result type comes.
use mathlib.Core.Path.{refl, sym, ◌∙◌}
use native.Mathlib.Omega.{arith}
use borrow.Author.Tests.{lt-leb, le-leb}
use Rattle.definition.specs.Verifier.{effect}
use Rattle.verifier.specs.Types.{types_of}
use Rattle.verifier.proofs.ValueLaws.{call-few, call-unmet, call_met}
use Rattle.definition.specs.Maybe.{◌>>=◌, need}
use Rattle.verifier.specs.Effects.{going}
use Rattle.verifier.specs.Answers.{outcome_of}
use Rattle.verifier.proofs.effects.invokevirtual.Goals as goal

pub returns-then-c-lt-NAME_OBJECT : goal.returns-then-c-lt-NAME_OBJECT
unfolding outcome_of going effect types_of ◌>>=◌ need
returns-then-c-lt-NAME_OBJECT c = rw (lt-leb 2 c.args.c c.if-c-lt-NAME_OBJECT.true)

pub returns-then-not-is_named : goal.returns-then-not-is_named
unfolding outcome_of going effect types_of ◌>>=◌ need
returns-then-not-is_named c = rw (le-leb 2 c.args.c c.if-c-lt-NAME_OBJECT.false, sym c.is_named.ensures ∙ c.if-not-is_named.true)

pub returns-then-types-n : goal.returns-then-types-n
unfolding outcome_of going
returns-then-types-n c =
    rw (call-few c.args.types c.args.c c.args.s c.if-c-lt-NAME_OBJECT.false (sym c.is_named.ensures ∙ c.if-not-is_named.false)
    (omega (arith, c.if-types-n.true, c.from-n.ensures, c.argument_count.ensures)))

pub returns-then-not-are_met : goal.returns-then-not-are_met
unfolding outcome_of going
returns-then-not-are_met c =
    let args = c.args in
    rw (call-unmet args.types args.c args.s c.if-c-lt-NAME_OBJECT.false (sym c.is_named.ensures ∙ c.if-not-is_named.false) _ _ _
    (c.from-n.ensures ∙ c.argument_count.ensures) c.if-types-n.false refl c.are_met.ensures c.if-not-are_met.true)

pub returns : goal.returns
returns c =
    call_met _ _ _ c.if-c-lt-NAME_OBJECT.false (sym c.is_named.ensures ∙ c.if-not-is_named.false) _ _ _
    (c.from-n.ensures ∙ c.argument_count.ensures) c.if-types-n.false refl c.are_met.ensures c.if-not-are_met.false
    _ _ _ c.operand.ensures c.meet_class-receiver.ensures c.type_of_name.ensures.0
