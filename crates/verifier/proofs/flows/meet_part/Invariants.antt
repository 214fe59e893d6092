use mathlib.Core.Path.{◌≡◌}
use Prim.Native.Nat.{◌-◌}
use Rattle.rows.specs.Posting.{noted}
use Rattle.verifier.specs.Trace.{posting, meet_from}
use Rattle.verifier.specs.Answers.{meet_at}
use Rattle.verifier.proofs.flows.meet_part.Given as goal

abbrev pub invariant-loop-i : goal.invariant-loop-i
invariant-loop-i l =
    posting l.loader (meet_from (meet_at l.maps l.place l.values l.part) (l.n - l.i) l.i) (noted l.subtypes l.posted.count)
    ≡ posting l.loader (meet_from (meet_at l.maps l.place l.values l.part) l.n 0) (noted l.initial.subtypes l.count)
