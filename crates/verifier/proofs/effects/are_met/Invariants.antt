use mathlib.Core.Path.{◌≡◌}
use Prim.Native.Nat.{◌-◌}
use Rattle.verifier.specs.Effects.{meet_value}
use Rattle.verifier.specs.Trace.{meet_from, values_trace}
use Rattle.verifier.proofs.effects.are_met.Given as goal

abbrev pub invariant-loop-i : goal.invariant-loop-i
invariant-loop-i l = (meet_from (meet_value l.types.operands l.d l.names) (l.i-end - l.i) l.i).accepts ≡ (values_trace l.types.operands l.d l.names).accepts
