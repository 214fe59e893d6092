-- The last operand is there twice.
use mathlib.Core.Path.{◌≡◌}
use mathlib.Core.List.{◌∷◌}
use Rattle.definition.specs.Lists.{stack}
use Rattle.definition.specs.Verifier.{effect, pop}
use Rattle.verifier.specs.Types.{type_of, operand_at, types_of}
use Rattle.verifier.proofs.TypeLaws.{pop-whole, popped-empty, popped-top}
use Rattle.definition.specs.Maybe.{◌>>=◌}
use Rattle.verifier.specs.Effects.{notes_in, going}
use Rattle.verifier.specs.Trace.{meet_from, values_trace}
use Rattle.verifier.specs.Answers.{outcome_of}
use Rattle.verifier.proofs.effects.dup.Goals as goal

pub returns-in_err-last : goal.returns-in_err-last
unfolding outcome_of going effect types_of ◌>>=◌
returns-in_err-last c = rw (c.from_residual.ensures, popped-empty _ _ _ c.pop.ensures c.in_err-last.was)

pub returns : goal.returns
unfolding outcome_of going effect types_of ◌>>=◌ notes_in values_trace meet_from pop
returns c =
    let whole : stack (operand_at c.args.types.operands)
    c.args.types.depth ≡ type_of c.in_ok-last.last.top ∷ stack
    (operand_at c.args.types.operands) c.in_ok-last.last.below = pop-whole _ _ _
    (popped-top _ _ _ c.pop.ensures c.in_ok-last.was) in
    rw (c.push.ensures, whole)
