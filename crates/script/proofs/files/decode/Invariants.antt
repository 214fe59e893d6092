-- The bytes of the pairs before place i are written.
use mathlib.Core.Path.{◌≡◌}
use lib.ListN.{length, set, take}
use Rattle.definition.specs.Lists.{write_rows}
use Rattle.script.specs.Files.{quick_pairs}
use Rattle.script.proofs.files.decode.Given as goal

abbrev pub invariant-loop-i : goal.invariant-loop-i
invariant-loop-i l = (l.file ≡ write_rows set (take l.i (quick_pairs l.s)) 0 l.initial.file) × (length l.file ≡ length l.initial.file)
