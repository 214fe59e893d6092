-- The row is the first that names the request, or its group is joined to that which stands there.
use mathlib.Core.Path.{refl}
use Prim.Native.Nat.{◌-◌}
use native.Mathlib.Omega.{arith}
use Rattle.groups.specs.Claims.{joins}
use Rattle.groups.proofs.claims.claim.Goals as goal

pub returns : goal.returns
returns c = joins (c.from-first.result - 1) (omega (arith, c.from-first.ensures, c.if-first-eq0.false)) refl c.join-lowest.ensures
