-- From the class that was looked up it is the method already found.
use Rattle.access.proofs.methods.select_from.Goals as goal

pub returns-then-c-e : goal.returns-then-c-e
returns-then-c-e c = rw (c.if-c-e.true) c.requires
