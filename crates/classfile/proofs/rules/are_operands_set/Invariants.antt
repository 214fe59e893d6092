use Prim.Native.Nat.{◌+◌, ◌-◌}
use mathlib.Core.Path.{◌≡◌}
use Rattle.definition.specs.Lists.{every, rows}
use Rattle.classfile.specs.Rules.{type_set, operands_set}
use Rattle.classfile.proofs.rules.are_operands_set.Given as goal

abbrev pub invariant-loop-i : goal.invariant-loop-i
invariant-loop-i l = every (rows (type_set l.maps (l.place + 19)) (l.i-end - l.i) l.i) ≡ operands_set l.maps l.place
