-- No row from the first on and below row o is free.
use Prim.Native.Nat.{◌-◌, ◌≤◌, max}
use Rattle.std.proofs.Math.Path.{◌≡◌}
use Rattle.frames.specs.Unused.{ownerless, unused_from}
use Rattle.frames.proofs.owners.unused.Given as goal

abbrev pub invariant-loop-o : goal.invariant-loop-o
invariant-loop-o l = (l.o ≤ max l.from l.n) × (ownerless l.counts (l.n - l.o) l.o ≡ unused_from l.counts l.from)
