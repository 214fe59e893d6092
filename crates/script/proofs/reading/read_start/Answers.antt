-- A task and a loader, then the rest.
use mathlib.Core.Path.{sym}
use Rattle.cells.specs.Optional.{optional-none, optional-some}
use Rattle.definition.specs.Maybe.{◌>>=◌}
use Rattle.script.specs.Commands.{said, command_of}
use Rattle.script.specs.Calls.{with_head, start_line}
use Rattle.script.proofs.reading.read_start.Goals as goal

pub returns-in_err-task : goal.returns-in_err-task
unfolding with_head start_line said ◌>>=◌ command_of
returns-in_err-task c =
    rw (c.from_residual.ensures, optional-none _ (sym c.in_err-task.ensures))

pub returns-in_err-loader : goal.returns-in_err-loader
unfolding with_head start_line said ◌>>=◌ command_of
returns-in_err-loader c =
    rw (c.from_residual-in_err-loader.ensures, optional-some _ _ (sym c.in_ok-task.ensures), ← c.after-t.ensures, optional-none _ (sym c.in_err-loader.ensures))

pub returns : goal.returns
unfolding with_head start_line said ◌>>=◌ command_of
returns c =
    rw (optional-some _ _ (sym c.in_ok-task.ensures), ← c.after-t.ensures, optional-some _ _ (sym c.in_ok-loader.ensures), ← c.after.ensures) c.read_method.ensures
