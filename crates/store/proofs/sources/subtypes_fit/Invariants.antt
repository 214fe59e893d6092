use mathlib.Core.Path.{◌≡◌}
use Prim.Native.Nat.{◌-◌, ◌≤◌}
use lib.ListN.{get_or}
use Rattle.definition.specs.Broken.{subtype_fits}
use Rattle.definition.specs.Lists.{all, rows}
use Rattle.definition.specs.Tables.{subtype_at}
use Rattle.store.proofs.sources.subtypes_fit.Given as goal

abbrev pub invariant-loop-i : goal.invariant-loop-i
invariant-loop-i l = (l.i ≤ l.n) × (all (subtype_fits) (rows (subtype_at l.subtypes) (l.n - l.i) l.i) ≡ all (subtype_fits) (rows (subtype_at l.subtypes) (get_or l.counts 4 0) 0))
