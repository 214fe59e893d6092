use mathlib.Core.Path.{◌≡◌}
use Prim.Native.Nat.{◌-◌, ◌≤◌}
use Rattle.definition.specs.Lists.{all, rows}
use Rattle.definition.specs.Tables.{field_at}
use Rattle.store.specs.Checks.{exists, value_in}
use Rattle.store.proofs.values.few_fit.Given as goal

abbrev pub invariant-loop-i : goal.invariant-loop-i
invariant-loop-i l = (l.i ≤ l.size) × (all (value_in (exists l.counts l.made)) (rows (field_at l.objects l.o) (l.size - l.i) l.i) ≡ all (value_in (exists l.counts l.made)) (rows (field_at l.objects l.o) l.size 0))
