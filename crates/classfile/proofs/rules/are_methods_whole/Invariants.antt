use Prim.Native.Nat.{◌-◌}
use mathlib.Core.Path.{◌≡◌}
use Rattle.definition.specs.Lists.{every, rows}
use Rattle.classfile.specs.Reading.{method_count, Placed}
use Rattle.classfile.specs.Rules.{whole_method_in}
use Rattle.classfile.proofs.rules.are_methods_whole.Given as goal

abbrev pub invariant-loop-j : goal.invariant-loop-j
invariant-loop-j l = record {
  at : Placed l.bytes l.j l.place;
  whole : every (rows (whole_method_in l.bytes) (l.j-end - l.j) l.j) ≡ every (rows (whole_method_in l.bytes) (method_count l.bytes) 0);
}
