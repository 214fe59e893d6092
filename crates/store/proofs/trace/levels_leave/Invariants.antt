use mathlib.Core.Path.{◌≡◌}
use Prim.Native.Nat.{◌-◌, ◌<◌, ◌≤◌}
use Rattle.definition.specs.Lists.{all, rows}
use Rattle.definition.specs.Tables.{level_at}
use Rattle.store.specs.Tracing.{cell_at, entry_end, file_end, level_leaves, most}
use Rattle.store.proofs.trace.levels_leave.Given as goal

abbrev pub invariant-loop-i : goal.invariant-loop-i
invariant-loop-i l = (l.files ≡ most (file_end l.classes) l.n) × (l.supers ≡ most (cell_at l.ends) l.n) × (l.entries ≡ most (entry_end l.cache) l.k) × (l.i < l.loads → (l.n ≤ (level_at l.counts l.i).classes) × (l.k ≤ (level_at l.counts l.i).cache)) × (all (level_leaves (cell_at l.ends) l.counts l.classes l.cache l.held) (rows (level_at l.counts) (l.loads - l.i) l.i) ≡ all (level_leaves (cell_at l.ends) l.counts l.classes l.cache l.held) (rows (level_at l.counts) l.loads 0))
