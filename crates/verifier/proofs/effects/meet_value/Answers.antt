-- The value is looked up, and its name.
use Rattle.verifier.specs.Types.{operand_at}
use Rattle.verifier.specs.Effects.{meet_value}
use Rattle.verifier.proofs.effects.meet_value.Goals as goal

pub returns : goal.returns
unfolding meet_value operand_at
returns c = rw (c.argument_at.ensures, c.value.ensures) at c.meet_name.ensures
