-- A loader, a name and a class, field by field.
use mathlib.Core.Path.{sym}
use Rattle.cells.specs.Optional.{optional-none, optional-some}
use Rattle.definition.specs.Maybe.{◌>>=◌}
use Rattle.script.specs.Commands.{said, command_of}
use Rattle.script.specs.Calls.{with_head, record_line}
use Rattle.script.proofs.reading.read_record.Goals as goal

pub returns-in_err-loader : goal.returns-in_err-loader
unfolding with_head record_line said ◌>>=◌ command_of
returns-in_err-loader c =
    rw (c.from_residual.ensures, optional-none _ (sym c.in_err-loader.ensures))

pub returns-in_err-name : goal.returns-in_err-name
unfolding with_head record_line said ◌>>=◌ command_of
returns-in_err-name c =
    rw (c.from_residual-in_err-name.ensures, optional-some _ _ (sym c.in_ok-loader.ensures), ← c.after-t.ensures, optional-none _ (sym c.in_err-name.ensures))

pub returns-in_err-class : goal.returns-in_err-class
unfolding with_head record_line said ◌>>=◌ command_of
returns-in_err-class c =
    rw (c.from_residual-in_err-class.ensures, optional-some _ _ (sym c.in_ok-loader.ensures), ← c.after-t.ensures, optional-some _ _ (sym c.in_ok-name.ensures), ← c.after.ensures, optional-none _ (sym c.in_err-class.ensures))

pub returns : goal.returns
unfolding with_head record_line said ◌>>=◌ command_of
returns c =
    rw (optional-some _ _ (sym c.in_ok-loader.ensures), ← c.after-t.ensures, optional-some _ _ (sym c.in_ok-name.ensures), ← c.after.ensures, optional-some _ _ (sym c.in_ok-class.ensures))
