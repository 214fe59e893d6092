-- A task.
use mathlib.Core.Path.{sym}
use Rattle.cells.specs.Optional.{optional-none, optional-some}
use Rattle.definition.specs.Maybe.{◌>>=◌}
use Rattle.script.specs.Commands.{said, command_of}
use Rattle.script.specs.Calls.{drop_line}
use Rattle.script.proofs.reading.read_drop.Goals as goal

pub returns-in_err-task : goal.returns-in_err-task
unfolding drop_line said ◌>>=◌ command_of
returns-in_err-task c =
    rw (c.from_residual.ensures, optional-none _ (sym c.in_err-task.ensures))

pub returns : goal.returns
unfolding drop_line said ◌>>=◌ command_of
returns c =
    rw (optional-some _ _ (sym c.in_ok-task.ensures))
