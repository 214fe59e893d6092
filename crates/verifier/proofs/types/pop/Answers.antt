-- There is a last operand unless there are none.
use mathlib.Core.Path.{sym}
use Rattle.verifier.specs.Types.{operand_at, popped}
use Rattle.verifier.proofs.TypeLaws.{pop-empty, pop-top}
use Rattle.verifier.proofs.types.pop.Goals as goal

pub returns-then-d-eq0 : goal.returns-then-d-eq0
unfolding popped
returns-then-d-eq0 c = sym (pop-empty _ _ c.if-d-eq0.true)

pub returns : goal.returns
unfolding popped operand_at
returns c = rw c.operand.ensures (sym (pop-top _ _ c.if-d-eq0.false))
