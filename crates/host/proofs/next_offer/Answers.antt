-- By whether there is one.
use Rattle.host.specs.Findings.{digit-there, digit-past}
use Rattle.host.proofs.next_offer.Goals as goal

pub returns-then-i-n : goal.returns-then-i-n
returns-then-i-n c = digit-there _ _ _ (c.if-i-n.true)

pub returns-else-i-n : goal.returns-else-i-n
returns-else-i-n c = digit-past _ _ _ (c.if-i-n.false)
