-- The map's number of operands is read and compared.
use Rattle.verifier.specs.Trace.{fits}
use Rattle.classfile.specs.Reading.{map_of, map_depth, type_at}
use Rattle.layout.specs.Places.{rows-length}
use Rattle.verifier.proofs.flows.is_fitting.Goals as goal

pub returns : goal.returns
unfolding fits map_of
returns c = rw (c.from.ensures, c.map_depth.ensures, rows-length (type_at _ _) (map_depth _ _) 0)
