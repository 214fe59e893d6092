use mathlib.Core.Path.{◌≡◌}
use Prim.Native.Nat.{◌≤◌}
use Rattle.definition.specs.Lists.{all, stack}
use Rattle.definition.specs.Tables.{operand_at}
use Rattle.store.specs.Checks.{exists, value_in}
use Rattle.store.proofs.values.operands_fit.Given as goal

abbrev pub invariant-loop-i : goal.invariant-loop-i
invariant-loop-i l = (l.i ≤ l.depth) × (all (value_in (exists l.counts l.made)) (stack (operand_at l.frames l.b) l.i) ≡ all (value_in (exists l.counts l.made)) (stack (operand_at l.frames l.b) l.depth))
