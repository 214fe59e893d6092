-- The loader of the row is compared.
use Rattle.definition.specs.Broken.{subtype_fits}
use Rattle.definition.specs.Tables.{subtype_at}
use Rattle.store.proofs.sources.subtype_fits.Goals as goal

pub returns : goal.returns
unfolding subtype_fits subtype_at
returns c = rw (c.at.ensures, c.from.ensures)
