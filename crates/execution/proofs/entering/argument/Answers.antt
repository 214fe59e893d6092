-- Past the last argument there is none.
use borrow.Author.Tests.{lt-ltb, le-ltb}
use Rattle.execution.specs.Entering.{argument_or}
use Rattle.definition.specs.Instructions.{pick}
use Rattle.execution.proofs.entering.argument.Goals as goal

pub returns-then-n-i : goal.returns-then-n-i
unfolding argument_or pick
returns-then-n-i c = rw (le-ltb _ _ c.if-n-i.true) c.empty.ensures

pub returns : goal.returns
unfolding argument_or pick
returns c = rw (lt-ltb _ _ c.if-n-i.false) c.operand.ensures
