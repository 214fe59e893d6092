-- The ends of links are groups.
use Prim.Native.Nat.{◌+◌}
use native.Mathlib.Omega.{arith}
use Rattle.constraints.specs.Search.{start_of}
use Rattle.constraints.proofs.looking.look_ahead.Goals as goal

pub search-requires : goal.search-requires
unfolding start_of
search-requires c =
    let args = c.args in
    let pre = c.requires in
    (omega arith, omega arith, omega arith, pre.3, λ e h. omega (arith, pre.4.low (args.cached + args.noted + e) (omega arith)), pre.5, pre.6, pre.7)
