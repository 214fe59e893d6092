use mathlib.Core.Path.{◌≡◌}
use Prim.Native.Nat.{◌-◌}
use lib.ListN.{get_or}
use Rattle.definition.specs.Lists.{any, rows}
use Rattle.definition.specs.Tables.{class_row_at}
use Rattle.first.specs.SameBases.{later_row}
use Rattle.changing.proofs.versions.keeps_later.Given as goal

abbrev pub invariant-loop-c : goal.invariant-loop-c
invariant-loop-c l =
    any (later_row (rows (λ i. get_or l.kept i 0) l.bytes 0)) (rows (class_row_at l.classes) (l.n - l.c) l.c) ≡ any (later_row (rows (λ i. get_or l.kept i 0) (get_or l.counts 1 0) 0)) (rows (class_row_at l.classes) (get_or l.counts 0 0) 0)
