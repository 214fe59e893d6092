use mathlib.Core.Path.{◌≡◌}
use Prim.Native.Nat.{◌<◌}
use Rattle.definition.specs.Numbers.{int_range}
use Rattle.definition.specs.Tables.{level_at}
use Rattle.store.specs.Tracing.{falling, level_from}
use Rattle.store.proofs.trace.levels_fall.Given as goal

abbrev pub invariant-loop-i : goal.invariant-loop-i
invariant-loop-i l = (l.above < int_range) × (falling (level_at l.counts) l.i (level_from l.counts l.above) ≡ falling (level_at l.counts) l.loads (level_from l.counts 0))
