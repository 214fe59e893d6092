-- No link ends at the group, or the search marks all that leads to it.
use Prim.Native.Nat.{◌+◌}
use native.Mathlib.Omega.{arith}
use Rattle.constraints.specs.Search.{start_of}
use Rattle.constraints.proofs.Filling.{joined-none}
use Rattle.constraints.proofs.Searching.{reached, reached-none}
use Rattle.constraints.proofs.looking.look_back.Goals as goal

pub returns-then-not-is_end : goal.returns-then-not-is_end
returns-then-not-is_end c = reached-none _ _ _ _ c.requires.4 (c.is_end.ensures c.if-not-is_end.true)

pub join-requires : goal.join-requires
unfolding start_of
join-requires c =
    let args = c.args in
    let pre = c.requires in
    (omega arith, omega arith, λ e h. omega (arith, pre.3.low (args.cached + args.noted + e) (omega arith)), joined-none _)

pub search-requires : goal.search-requires
unfolding start_of
search-requires c =
    let args = c.args in
    let pre = c.requires in
    (pre.2, omega arith, omega arith, omega arith, λ e h. omega (arith, pre.3.low (args.cached + e) (omega arith)), c.join.ensures, pre.4, pre.5)

pub returns : goal.returns
returns c = reached _ _ _ _ c.search.ensures
