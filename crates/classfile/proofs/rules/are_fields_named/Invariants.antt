use Prim.Native.Nat.{◌-◌}
use mathlib.Core.Path.{◌≡◌}
use Rattle.definition.specs.Lists.{every, rows}
use Rattle.classfile.specs.Rules.{named_field, named_fields}
use Rattle.classfile.proofs.rules.are_fields_named.Given as goal

abbrev pub invariant-loop-i : goal.invariant-loop-i
invariant-loop-i l = every (rows (named_field l.bytes) (l.i-end - l.i) l.i) ≡ named_fields l.bytes
