-- The superclass is found by the row of its entry.
use Rattle.std.proofs.Math.Path.{ap}
use Rattle.cells.specs.Optional.{optional}
use Rattle.resolution.specs.Cached.{super-by-row}
use Rattle.resolution.proofs.Base.super_of.Goals as goal

pub returns : goal.returns
returns c = rw (c.super_by.ensures, c.super_row.ensures) (ap optional (super-by-row _ _))
