-- Fields i and above hold what they begin as.
use Prim.Native.Nat.{◌-◌}
use Rattle.std.proofs.Math.Path.{◌≡◌}
use Rattle.std.proofs.Math.ListN.{get_or}
use Rattle.frames.specs.Initial.{initial_of}
use Rattle.definition.specs.Lists.{rows, write_rows}
use Rattle.definition.specs.Tables.{put_field}
use Rattle.frames.proofs.write_object.Given as goal

abbrev pub invariant-loop-i : goal.invariant-loop-i
invariant-loop-i l = l.objects ≡ write_rows (put_field l.o) (rows (λ j. initial_of (get_or l.types j 0)) (l.n - l.i) l.i) l.i l.initial.objects
