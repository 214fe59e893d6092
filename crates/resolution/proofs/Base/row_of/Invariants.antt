-- The request's row is i rows past the first of those from row i on that has it.
use Prim.Native.Nat.{◌+◌, ◌-◌}
use Rattle.std.proofs.Math.Path.{◌≡◌}
use Rattle.definition.specs.Lists.{rows}
use Rattle.definition.specs.Requests.{at}
use Rattle.definition.specs.Tables.{entry_at}
use Rattle.resolution.specs.Cached.{row_of}
use Rattle.resolution.specs.Quick.{base_of}
use Rattle.resolution.proofs.Base.row_of.Given as goal

abbrev pub invariant-loop-i : goal.invariant-loop-i
invariant-loop-i l = l.i + row_of (rows (entry_at l.self.cache.now) (l.n - l.i) l.i) (at l.loader l.name) ≡ row_of (base_of l.self).cache (at l.loader l.name)
