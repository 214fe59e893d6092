-- A branch that jumps goes on at its target, another after itself.
use Rattle.instructions.specs.Plans.{jumped}
use Rattle.instructions.proofs.jump_if.Goals as goal

pub returns-then-taken : goal.returns-then-taken
unfolding jumped
returns-then-taken c = rw c.if-taken.true

pub returns : goal.returns
unfolding jumped
returns c = rw c.if-taken.false
