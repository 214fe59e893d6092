-- The fields counted so far and those of the class reached are those of c. A class declares at most 255, and there are at most 65,535 classes.
use Prim.Native.Nat.{◌*◌, ◌+◌, ◌-◌, ◌<◌, ◌≤◌}
use Rattle.std.proofs.Math.Path.{◌≡◌}
use Rattle.std.proofs.Math.ListN.{length}
use Rattle.definition.specs.Classes.{slots}
use Rattle.resolution.specs.Quick.{base_of}
use Rattle.resolution.proofs.Base.size_of.Given as goal

abbrev pub invariant-loop-p : goal.invariant-loop-p
invariant-loop-p l = (l.at ≤ l.c) × (l.total ≤ 255 * (l.c - l.at)) × (l.total + length (slots (base_of l.self) l.at) ≡ length (slots (base_of l.self) l.c)) × (l.c < 65536)

abbrev pub decreases-loop-p : goal.decreases-loop-p
decreases-loop-p l = l.at
