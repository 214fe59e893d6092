-- Of the fields before field i the number tells whether all fit.
use mathlib.Core.Path.{◌≡◌}
use mathlib.Core.Bool.{◌&&◌}
use Prim.Native.Nat.{◌+◌, ◌*◌, ◌-◌}
use lib.Dec.{eqb}
use Rattle.definition.specs.Lists.{all, rows}
use Rattle.definition.specs.Tables.{field_at}
use Rattle.store.specs.Checks.{exists, value_in}
use Rattle.store.proofs.values.many_fit.Given as goal

abbrev pub invariant-loop-i : goal.invariant-loop-i
invariant-loop-i l = (l.first ≡ l.o * 33 + 1) × ((eqb l.found 0 && all (value_in (exists l.counts l.made)) (rows (field_at l.objects l.o) (l.size - l.i) l.i)) ≡ all (value_in (exists l.counts l.made)) (rows (field_at l.objects l.o) l.size 0))
