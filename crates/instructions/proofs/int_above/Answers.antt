-- An int's two cells, above the operands that stay.
use Rattle.std.proofs.Common.{refl}
use Rattle.instructions.specs.Plans.{computed}
use Rattle.instructions.proofs.int_above.Goals as goal

pub returns : goal.returns
unfolding computed
returns c = refl
