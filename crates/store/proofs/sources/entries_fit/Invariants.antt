use mathlib.Core.Path.{◌≡◌}
use Prim.Native.Nat.{◌-◌, ◌≤◌}
use lib.ListN.{get_or}
use Rattle.definition.specs.Broken.{entry_fits}
use Rattle.definition.specs.Lists.{all, rows}
use Rattle.definition.specs.Tables.{entry_at}
use Rattle.store.proofs.sources.entries_fit.Given as goal

abbrev pub invariant-loop-i : goal.invariant-loop-i
invariant-loop-i l = (l.i ≤ l.n) × (all (entry_fits l.classes) (rows (entry_at l.cache) (l.n - l.i) l.i) ≡ all (entry_fits (get_or l.counts 0 0)) (rows (entry_at l.cache) (get_or l.counts 2 0) 0))
