-- k instructions are walked, the row stands at point p with d operands, and the objects keep their length.
use mathlib.Core.Path.{◌≡◌}
use Prim.Native.Nat.{ℕ}
use lib.ListN.{length}
use Rattle.execution.specs.Opcodes.{Numbers}
use Rattle.execution.specs.Plain.{At}
use Rattle.execution.specs.Reaches.{Walked}
use Rattle.execution.proofs.reaching.walk.Given as goal

abbrev pub invariant-loop-k : goal.invariant-loop-k
invariant-loop-k l =
    ((v : ℕ) → Numbers v l.numbers → Walked l.tags l.facts l.counts l.key v l.code l.initial.row l.initial.objects l.k l.row l.objects) × At l.row l.p l.d × (length l.objects ≡ length l.initial.objects)
