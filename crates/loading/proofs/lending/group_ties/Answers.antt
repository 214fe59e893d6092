-- Only a newcomer has ties to group.
use native.Mathlib.Omega.{arith}
use Rattle.constraints.specs.Laws.{beside-made}
use Rattle.loading.specs.Plans.{Made}
use Rattle.loading.proofs.lending.group_ties.Goals as goal

pub returns-in-Err : goal.returns-in-Err
unfolding Made
returns-in-Err c = rw c.in-Err.is tt

pub returns-in-None : goal.returns-in-None
unfolding Made
returns-in-None c = rw (rw c.in-None.is at c.in-Ok.is) tt

pub returns-in-Some : goal.returns-in-Some
unfolding Made
returns-in-Some c =
    rw (rw c.in-Some.is at c.in-Ok.is)
    (λ few fits. beside-made c.args.ties.now c.args.groups.now _ _ _ few (omega (arith, few, c.requires)) fits c.group_rows.ensures)
