use mathlib.Core.Path.{◌≡◌}
use Prim.Native.Nat.{◌-◌, ◌≤◌}
use Rattle.definition.specs.Lists.{all, rows}
use Rattle.definition.specs.Tables.{local_at}
use Rattle.store.specs.Checks.{exists, local_in}
use Rattle.store.proofs.values.locals_fit.Given as goal

abbrev pub invariant-loop-i : goal.invariant-loop-i
invariant-loop-i l = (l.i ≤ 8) × (all (local_in (exists l.counts l.made)) (rows (local_at l.frames l.b) (8 - l.i) l.i) ≡ all (local_in (exists l.counts l.made)) (rows (local_at l.frames l.b) 8 0))
