-- The arguments from i on are refused just if one of all is.
use Rattle.std.proofs.Math.Path.{◌≡◌}
use Rattle.std.proofs.Math.ListN.{length}
use Rattle.definition.specs.Classes.{types_of}
use Rattle.definition.specs.Lists.{rows}
use Rattle.definition.specs.Machine.{kinds! }
use Rattle.definition.specs.Tables.{operand_at}
use Rattle.access.specs.Passing.{kinds_from}
use Rattle.access.proofs.passing.are_kinds.Given as goal

abbrev pub invariant-loop-i : goal.invariant-loop-i
invariant-loop-i l =
    (l.n ≡ length (types_of l.list)) × (kinds_from l.frames l.b l.list l.k l.i ≡ kinds! (types_of l.list) (rows (operand_at l.frames l.b) (length (types_of l.list)) l.k))
