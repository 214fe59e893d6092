-- The loop: the first i offers aren't for the request.
use mathlib.Core.Path.{◌≡◌}
use Prim.Native.Nat.{◌/◌, ◌≤◌}
use lib.ListN.{length}
use Rattle.searching.proofs.Sought.{NoneYet}
use Rattle.searching.proofs.searches.is_any_for.Given as goal

abbrev pub invariant-loop-i : goal.invariant-loop-i
invariant-loop-i l =
    (l.i ≤ l.n) × (l.n ≡ length l.offers / 4) × NoneYet l.offers l.files l.loader l.name l.i
