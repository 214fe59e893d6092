-- The links are joined, if there are any.
use Prim.Native.Nat.{◌+◌}
use mathlib.Core.Logic.{inr}
use native.Mathlib.Omega.{arith}
use Rattle.constraints.specs.Search.{start_of}
use Rattle.constraints.proofs.Filling.{joined-first}
use Rattle.constraints.proofs.Looks.{tables-zeros}
use Rattle.constraints.proofs.agreement.find_break.Goals as goal

pub join-requires : goal.join-requires
unfolding start_of
join-requires c =
    let pre = c.requires in
    (omega arith, omega arith, λ e h. omega (arith, pre.2.low (c.args.cached + e) (omega arith)), joined-first _ _ pre.3)

pub find_pair-requires-2 : goal.find_pair-requires-2
find_pair-requires-2 c = let pre = c.requires in (pre.0, pre.1, pre.2, inr c.join.ensures, tables-zeros _ _ pre.4)
