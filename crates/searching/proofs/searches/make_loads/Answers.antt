-- The loads of the order, made on a copy of the box's.
use Rattle.searching.proofs.Sought.{copy-loads}
use Rattle.searching.proofs.searches.make_loads.Goals as goal

pub returns : goal.returns
returns c = copy-loads _ _ _ _ _ c.fill.ensures c.requires.0 c.requires.1 c.replay.ensures
