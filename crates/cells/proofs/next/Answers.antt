-- The byte after a place is read; past the end it is 0, and no place is too high to have a place after it.
use mathlib.Core.Path.{sym}
use Prim.Native.Nat.{◌+◌, ◌≤◌}
use native.Mathlib.Omega.{arith}
use lib.ListN.{length, get_or-eq_default}
use Rattle.cells.proofs.next.Goals as goal

pub returns-else-i-t : goal.returns-else-i-t
returns-else-i-t c = let h : length c.args.t.now ≤ c.args.i + 1 = omega arith in sym (get_or-eq_default c.args.t.now 0 h)
