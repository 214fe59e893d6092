use mathlib.Core.Path.{◌≡◌}
use lib.ListN.{drop}
use Rattle.definition.specs.Lists.{same_list}
use Rattle.definition.specs.Classes.{types_of}
use Rattle.cells.proofs.arguments.same_arguments.Given as goal

abbrev pub invariant-loop-i : goal.invariant-loop-i
invariant-loop-i l = same_list (drop l.i (types_of l.a)) (drop l.i (types_of l.b)) ≡ same_list (types_of l.a) (types_of l.b)
