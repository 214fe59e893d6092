-- Those counted, at most one a row, and those from row o on are all of them.
use Prim.Native.Nat.{◌+◌, ◌-◌, ◌≤◌}
use Rattle.std.proofs.Math.Path.{◌≡◌}
use Rattle.frames.specs.Made.{owned_in}
use Rattle.frames.proofs.owners.made_by.Given as goal

abbrev pub invariant-loop-o : goal.invariant-loop-o
invariant-loop-o l = (l.made ≤ l.o) × (l.made + owned_in l.counts l.own (l.held - l.o) l.o ≡ owned_in l.counts l.own l.held 0)
