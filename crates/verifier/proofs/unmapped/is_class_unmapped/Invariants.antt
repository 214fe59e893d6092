use Prim.Native.Nat.{◌-◌}
use mathlib.Core.Path.{◌≡◌}
use Rattle.definition.specs.Lists.{any, rows}
use Rattle.classfile.specs.Reading.{file_version, method_in, quick_methods}
use Rattle.verifier.specs.Lookups.{unmapped_in}
use Rattle.verifier.proofs.unmapped.is_class_unmapped.Given as goal

abbrev pub invariant-loop-j : goal.invariant-loop-j
invariant-loop-j l =
    any (unmapped_in (file_version l.bytes)) (rows (method_in l.bytes) (l.j-end - l.j) l.j) ≡ any (unmapped_in (file_version l.bytes)) (quick_methods l.bytes)
