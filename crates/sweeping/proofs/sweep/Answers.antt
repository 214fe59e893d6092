-- A broken store is refused; of another, the objects that no mark reaches are freed.
use Rattle.sweeping.proofs.Swept.{sweep-broken, sweep-done}
use Rattle.sweeping.proofs.sweep.Goals as goal

pub returns-in_default : goal.returns-in_default
returns-in_default c = sweep-broken _ c.in_default.ensures

pub returns : goal.returns
returns c =
    let measured = c.in-Some.ensures in
    rw c.close.ensures (sweep-done _ measured.unbroken _ measured.sized _ _ _ c.mark_reached.ensures c.free_unmarked-freed.ensures)
