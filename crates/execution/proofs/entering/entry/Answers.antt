-- Each of the four is an argument, or empty.
use Rattle.execution.specs.Entering.{entered}
use Rattle.execution.proofs.entering.entry.Goals as goal

pub returns : goal.returns
returns c =
    rw (c.argument.ensures, c.argument-2.ensures, c.argument-3.ensures, c.argument-4.ensures)
    (entered _ _ _ _ _ _ c.requires.0)
