-- The eight locals, one by one.
use Rattle.definition.specs.Lists.{rows}
use Rattle.classfile.specs.Reading.{map_of}
use Rattle.verifier.specs.Types.{local_at, locals_of}
use Rattle.verifier.proofs.flows.mapped_locals.Goals as goal

pub returns : goal.returns
unfolding locals_of local_at map_of rows
returns c =
    rw (
      c.mapped_local-a.ensures,
      c.mapped_local-b.ensures,
      c.mapped_local-c.ensures,
      c.mapped_local-d.ensures,
      c.mapped_local-e.ensures,
      c.mapped_local-f.ensures,
      c.mapped_local-g.ensures,
      c.mapped_local-h.ensures,
    )
