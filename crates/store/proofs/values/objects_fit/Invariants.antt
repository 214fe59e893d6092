use mathlib.Core.Path.{◌≡◌}
use Prim.Native.Nat.{◌-◌, ◌≤◌}
use lib.ListN.{get_or}
use Rattle.definition.specs.Lists.{all, rows}
use Rattle.store.specs.Checks.{exists, object_in, object_sized}
use Rattle.store.proofs.values.objects_fit.Given as goal

abbrev pub invariant-loop-o : goal.invariant-loop-o
invariant-loop-o l = (l.o ≤ l.n) × (all (object_in l.classes (exists l.counts l.made)) (rows (object_sized l.sizes l.counts l.objects) (l.n - l.o) l.o) ≡ all (object_in (get_or l.counts 0 0) (exists l.counts (get_or l.counts 5 0))) (rows (object_sized l.sizes l.counts l.objects) (get_or l.counts 5 0) 0))
