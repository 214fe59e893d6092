-- A start is read if its name and method are 16-bit numbers.
use borrow.Author.Tests.{le-leb, lt-leb}
use Rattle.definition.specs.Instructions.{pick}
use Rattle.calls.specs.Made.{call_of}
use Rattle.driver.specs.Laws.{call_made}
use Rattle.driver.proofs.read_start.Goals as goal

pub returns-then-name-gt65535 : goal.returns-then-name-gt65535
unfolding call_made pick
returns-then-name-gt65535 c = λ bs. rw (lt-leb _ _ c.if-name-gt65535.true)

pub returns-then-method-gt65535 : goal.returns-then-method-gt65535
unfolding call_made pick
returns-then-method-gt65535 c = λ bs. rw (le-leb _ _ c.if-name-gt65535.false, lt-leb _ _ c.if-method-gt65535.true)

pub returns : goal.returns
unfolding call_made call_of pick
returns c = λ bs. rw (le-leb _ _ c.if-name-gt65535.false, le-leb _ _ c.if-method-gt65535.false)
