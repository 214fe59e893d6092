use Prim.Native.Nat.{◌-◌}
use mathlib.Core.Path.{◌≡◌}
use Rattle.definition.specs.Lists.{doubled, rows}
use Rattle.definition.specs.File.{same_method}
use Rattle.classfile.specs.Reading.{method_in, quick_methods, Placed}
use Rattle.classfile.proofs.rules.is_method_doubled.Given as goal

abbrev pub invariant-loop-j : goal.invariant-loop-j
invariant-loop-j l = record {
  at : Placed l.bytes l.j l.place;
  twice : doubled same_method (rows (method_in l.bytes) (l.j-end - l.j) l.j) ≡ doubled same_method (quick_methods l.bytes);
}
