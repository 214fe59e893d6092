-- Two cells of the row are compared.
use Rattle.std.proofs.Common.{◌∙◌}
use borrow.Author.Tests.{le-ltb}
use Rattle.groups.proofs.Claiming.{fits-one, fits-two}
use Rattle.groups.proofs.grouping.row_fits.Goals as goal

pub returns-then-ties-row-lt-LOADERS : goal.returns-then-ties-row-lt-LOADERS
returns-then-ties-row-lt-LOADERS c = fits-two c.args.ties.now c.args.i c.if-ties-row-lt-LOADERS.true

pub returns-else-ties-row-lt-LOADERS : goal.returns-else-ties-row-lt-LOADERS
returns-else-ties-row-lt-LOADERS c = le-ltb _ _ c.if-ties-row-lt-LOADERS.false ∙ fits-one c.args.ties.now c.args.i c.if-ties-row-lt-LOADERS.false
