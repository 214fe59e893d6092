-- A class, a method and an int, field by field.
use mathlib.Core.Path.{sym}
use Rattle.cells.specs.Optional.{optional-none, optional-some}
use Rattle.definition.specs.Maybe.{◌>>=◌}
use Rattle.script.specs.Commands.{said, command_of}
use Rattle.script.specs.Calls.{with_head, method_line}
use Rattle.script.proofs.reading.read_method.Goals as goal

pub returns-in_err-name : goal.returns-in_err-name
unfolding with_head method_line said ◌>>=◌ command_of
returns-in_err-name c =
    rw (c.from_residual.ensures, optional-none _ (sym c.in_err-name.ensures))

pub returns-in_err-method : goal.returns-in_err-method
unfolding with_head method_line said ◌>>=◌ command_of
returns-in_err-method c =
    rw (c.from_residual-in_err-method.ensures, optional-some _ _ (sym c.in_ok-name.ensures), ← c.after-t.ensures, optional-none _ (sym c.in_err-method.ensures))

pub returns-in_err-int : goal.returns-in_err-int
unfolding with_head method_line said ◌>>=◌ command_of
returns-in_err-int c =
    rw (c.from_residual-in_err-int.ensures, optional-some _ _ (sym c.in_ok-name.ensures), ← c.after-t.ensures, optional-some _ _ (sym c.in_ok-method.ensures), ← c.after.ensures, optional-none _ (sym c.in_err-int.ensures))

pub returns : goal.returns
unfolding with_head method_line said ◌>>=◌ command_of
returns c =
    rw (optional-some _ _ (sym c.in_ok-name.ensures), ← c.after-t.ensures, optional-some _ _ (sym c.in_ok-method.ensures), ← c.after.ensures, optional-some _ _ (sym c.in_ok-int.ensures))
