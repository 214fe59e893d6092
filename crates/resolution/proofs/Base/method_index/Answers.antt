-- The place at which the file's search finds a method.
use Rattle.std.proofs.Math.Path.{ap, sym}
use Rattle.cells.specs.Optional.{optional}
use Rattle.classfile.specs.Searches.{method-absent, method-at}
use Rattle.resolution.proofs.Base.method_index.Goals as goal

pub returns-in_err-found : goal.returns-in_err-found
returns-in_err-found c = rw (c.from_residual.ensures, ← c.file_of.ensures) (ap optional (sym (method-absent _ _ (sym c.in_err-found.ensures))))

pub returns : goal.returns
returns c = rw (c.from.ensures, ← c.file_of.ensures) (ap optional (sym (method-at _ _ _ (sym c.in_ok-found.ensures)).0))
