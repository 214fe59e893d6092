-- A run that is refused changes nothing; any other takes its steps.
use native.Mathlib.Omega.{arith}
use Rattle.execution.specs.Runs.{run-allowed}
use Rattle.instructions.specs.Operands.{positive}
use Rattle.execution.proofs.runs.run.Goals as goal

pub returns-in-Err : goal.returns-in-Err
returns-in-Err c = c.in-Err.ensures

pub steps_allowed-requires : goal.steps_allowed-requires
steps_allowed-requires c = let a = c.in-Ok.ensures in (a.0, omega (arith, positive _ a.1, a.3))

pub returns-in-Ok : goal.returns-in-Ok
returns-in-Ok c = run-allowed _ _ _ c.in-Ok.ensures _ c.steps_allowed.ensures
