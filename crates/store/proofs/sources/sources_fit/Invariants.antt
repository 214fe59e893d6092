use mathlib.Core.Path.{◌≡◌}
use Prim.Native.Nat.{◌-◌}
use lib.ListN.{get_or}
use Rattle.definition.specs.Lists.{all, rows}
use Rattle.definition.specs.Tables.{class_row_at}
use Rattle.store.specs.Checks.{file_fits, sources_fit}
use Rattle.store.proofs.sources.sources_fit.Given as goal

abbrev pub invariant-loop-c : goal.invariant-loop-c
invariant-loop-c l = all (file_fits (get_or l.counts 1 0) l.kept) (rows (class_row_at l.classes) (l.n - l.c) l.c) ≡ sources_fit (get_or l.counts 1 0) l.kept (rows (class_row_at l.classes) (get_or l.counts 0 0) 0)
