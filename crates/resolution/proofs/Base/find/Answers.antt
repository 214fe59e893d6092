-- The class of the row in which the request stands first.
use Rattle.std.proofs.Math.Path.{ap}
use Rattle.cells.specs.Optional.{optional}
use Rattle.resolution.specs.Cached.{find-by-row}
use Rattle.resolution.proofs.Base.find.Goals as goal

pub returns : goal.returns
returns c = rw (c.class_in.ensures, c.row_of.ensures) (ap optional (find-by-row _ _))
