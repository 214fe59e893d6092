-- The loop: the offers from row i on are readable exactly if all are.
use Rattle.definition.specs.Offers.{offers_from, offers_in}
use Rattle.definition.specs.Lists.{is_some}
use Prim.Native.Nat.{◌-◌, ◌≤◌}
use mathlib.Core.Path.{◌≡◌}
use Rattle.searching.proofs.offers.read_offers.Given as goal

abbrev pub invariant-loop-i : goal.invariant-loop-i
invariant-loop-i l = (l.i ≤ l.n) × (l.n ≤ 8) × (is_some (offers_from l.offers l.files (l.n - l.i) l.i) ≡ is_some (offers_in l.offers l.files))
