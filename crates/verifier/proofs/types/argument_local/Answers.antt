-- An argument's local has its type; where there is no such argument, it is unset.
use mathlib.Core.Path.{ap, ◌∙◌}
use Rattle.definition.specs.Verifier.{type_of_name}
use Rattle.verifier.proofs.TypeLaws.{argument-there, argument-past}
use Rattle.verifier.proofs.types.argument_local.Goals as goal

pub returns-then-i-argument_count : goal.returns-then-i-argument_count
returns-then-i-argument_count c =
    argument-there _ _ _ (rw c.argument_count.ensures at c.if-i-argument_count.true) (c.type_of_name.ensures.0 ∙ ap type_of_name c.argument_at.ensures) c.type_of_name.ensures.1

pub returns-else-i-argument_count : goal.returns-else-i-argument_count
returns-else-i-argument_count c = argument-past _ _ (rw c.argument_count.ensures at c.if-i-argument_count.false)
