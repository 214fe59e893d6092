-- The report's objects are counted and compared with its share.
use Rattle.store.specs.Checks.{share_fits}
use Rattle.store.proofs.counts.share_fits.Goals as goal

pub returns : goal.returns
unfolding share_fits
returns c = rw c.made_by.ensures
