-- The first i rows have named their requests.
use Rattle.groups.specs.Claims.{Claimed, Naming}
use Rattle.groups.specs.Lowest.{RowTied}
use Rattle.groups.proofs.claims.claim_rows.Given as goal

abbrev pub invariant-loop-i : goal.invariant-loop-i
invariant-loop-i l = Claimed (RowTied l.ties l.n) (Naming l.ties l.nodes l.i) l.i l.firsts l.ups
