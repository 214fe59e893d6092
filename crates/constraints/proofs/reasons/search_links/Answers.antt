-- The lowest row that breaks agreement by itself, or the best of two searches: by ties alone, and then by all links.
use mathlib.Core.Path.{refl, ◌∙◌}
use native.Mathlib.Omega.{arith}
use Prim.Native.Nat.{◌<◌}
use lib.ListN.{length, length-set}
use lib.Seq.{get_or-set_same}
use Rattle.definition.specs.Lists.{rows}
use Rattle.constraints.proofs.Supers.{super-falls}
use Rattle.constraints.proofs.Alones.{alone-best}
use Rattle.constraints.proofs.reasons.search_links.Goals as goal

pub returns-in-Some : goal.returns-in-Some
unfolding rows
returns-in-Some c =
    let long = c.requires.4 in
    let best : 0 < length c.args.best.now = omega arith in
    rw c.put.ensures (
      record { long = length-set c.args.best.now 0 c.in-Some.row ∙ long; fits = omega arith },
      rw (get_or-set_same c.args.best.now 0 c.in-Some.row 0 best)
          (alone-best _ _ _ _ _ _ (super-falls _) _ _ _ _ _ refl c.first_alone-tie.ensures (rw c.in-Some.is at c.first_alone-row.ensures) _ refl),
    )
