-- A denied start changes nothing; else the object and the first frame are the definition's.
use native.Mathlib.Omega.{arith}
use Rattle.std.proofs.Common.{refl}
use Rattle.execution.specs.Starts.{begin-ready, start_first}
use Rattle.execution.proofs.starting.start.Goals as goal

pub overflow_cast-task : goal.overflow_cast-task
overflow_cast-task c = omega (arith, (begin-ready _ _ _ _ _ _ _ _ _ c.in-Ok.ensures).0)

pub begin-requires : goal.begin-requires
begin-requires c = let f = begin-ready _ _ _ _ _ _ _ _ _ c.in-Ok.ensures in (f.1, f.2)

pub returns-in-Ok : goal.returns-in-Ok
returns-in-Ok c =
    let f = c.in-Ok.ensures in start_first _ _ _ _ _ _ _ _ f.0 _ _ _ _ _ _ f.1 _ _ _ _ _ _ _ refl c.begin.ensures.counted c.begin.ensures.made c.begin.ensures.entered
