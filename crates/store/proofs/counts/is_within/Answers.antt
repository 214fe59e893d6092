-- The count is compared with its limit.
use Rattle.store.proofs.counts.is_within.Goals as goal

pub returns : goal.returns
returns c = rw c.at.ensures
