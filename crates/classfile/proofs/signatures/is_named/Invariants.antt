use mathlib.Core.Path.{◌≡◌}
use lib.ListN.{drop}
use lib.Dec.{leb}
use Rattle.definition.specs.Lists.{all}
use Rattle.definition.specs.Classes.{types_of}
use Rattle.classfile.proofs.signatures.is_named.Given as goal

abbrev pub invariant-loop-i : goal.invariant-loop-i
invariant-loop-i l = all (leb 1) (drop l.i (types_of l.s.arguments)) ≡ all (leb 1) (types_of l.s.arguments)
