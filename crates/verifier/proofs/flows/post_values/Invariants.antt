use mathlib.Core.Path.{◌≡◌}
use Prim.Native.Nat.{◌-◌}
use Rattle.rows.specs.Posting.{noted}
use Rattle.verifier.specs.Effects.{meet_value}
use Rattle.verifier.specs.Trace.{posting, meet_from, values_trace}
use Rattle.verifier.proofs.flows.post_values.Given as goal

abbrev pub invariant-loop-i : goal.invariant-loop-i
invariant-loop-i l =
    posting l.loader (meet_from (meet_value l.types.operands l.d l.names) (l.i-end - l.i) l.i) (noted l.subtypes l.total)
    ≡ posting l.loader (values_trace l.types.operands l.d l.names) (noted l.initial.subtypes l.count)
