-- Both searches stop nowhere.
use Prim.Native.Nat.{◌+◌}
use native.Mathlib.Omega.{arith}
use Rattle.constraints.specs.Search.{start_of}
use Rattle.constraints.proofs.Searching.{reached}
use Rattle.constraints.proofs.looking.look_around.Goals as goal

pub search-requires : goal.search-requires
unfolding start_of
search-requires c =
    let args = c.args in
    let pre = c.requires in
    (omega (arith, c.place-group.ensures.0, pre.3.low args.a (omega arith)), omega arith, omega arith, omega arith, λ e h. omega (arith, pre.3.low (args.cached + args.noted + e) (omega arith)), pre.4, pre.5.outs_are, pre.5.queue_long)

pub returns : goal.returns
returns c =
    let place = c.place-group.ensures.0 in
    (rw place at (reached _ _ _ _ c.search.ensures), rw place at c.look_back.ensures, c.mark_above.ensures)
