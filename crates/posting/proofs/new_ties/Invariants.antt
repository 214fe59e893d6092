-- The names before i are looked at, and those from i on and the last are still to come.
use Prim.Native.Nat.{◌≤◌}
use Rattle.std.proofs.Math.ListN.{length}
use Rattle.definition.specs.Lists.{rows}
use Rattle.definition.specs.Classes.{types_of}
use Rattle.definition.specs.Tables.{tie_at}
use Rattle.posting.specs.Postings.{to_post, Between, Left}
use Rattle.posting.proofs.new_ties.Given as goal

abbrev pub invariant-loop-i : goal.invariant-loop-i
invariant-loop-i l = Between l.one l.two l.posting × (length (to_post l.posting) ≤ l.i) × Left (rows (tie_at l.ties) l.count 0) l.one l.two (types_of l.names) l.last (to_post l.posting) l.i
