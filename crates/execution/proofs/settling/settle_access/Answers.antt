-- A refusal posts nothing; what was found is settled.
use Rattle.execution.proofs.settling.settle_access.Goals as goal

pub settle-requires : goal.settle-requires
settle-requires c =
    let pre = c.requires in
    (pre.0, pre.1, pre.2, rw c.in-Ok.is at pre.4, pre.3)

pub returns-in-Err : goal.returns-in-Err
returns-in-Err c = rw (c.in-Err.is) c.plain.ensures

pub returns-in-Ok : goal.returns-in-Ok
returns-in-Ok c = rw c.in-Ok.is c.settle.ensures
