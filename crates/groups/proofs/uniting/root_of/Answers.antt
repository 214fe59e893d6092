-- A place that leads to a lower one has the root of that.
use Rattle.groups.proofs.Rooting.{root-here, root-next}
use Rattle.groups.proofs.uniting.root_of.Goals as goal

pub returns-then-up-p : goal.returns-then-up-p
returns-then-up-p c = root-next _ _ _ _ c.from-up.ensures c.if-up-p.true (c.requires.3 _ c.if-up-p.true)

pub returns-else-up-p : goal.returns-else-up-p
returns-else-up-p c = root-here _ _ _ c.from-up.ensures c.if-up-p.false
