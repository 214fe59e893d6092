use Prim.Native.Nat.{◌-◌}
use mathlib.Core.Path.{◌≡◌}
use Rattle.definition.specs.Lists.{index_of, rows}
use Rattle.definition.specs.Classes.{alike}
use Rattle.classfile.specs.Lists.{shift}
use Rattle.classfile.specs.Reading.{method_count, method_in, Placed}
use Rattle.classfile.proofs.methods.alike_from.Given as goal

abbrev pub invariant-loop-j : goal.invariant-loop-j
invariant-loop-j l = record {
  at : Placed l.bytes l.j l.place;
  found : shift l.j (index_of (alike l.s) (rows (method_in l.bytes) (l.j-end - l.j) l.j))
      ≡ shift l.first (index_of (alike l.s) (rows (method_in l.bytes) (method_count l.bytes - l.first) l.first));
}
