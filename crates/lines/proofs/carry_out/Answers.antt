-- The line is read; if it says a call, the call is made and its answer printed.
use Rattle.lines.specs.Asked.{heard-small}
use Rattle.lines.specs.Carried.{line-carried, line-unread}
use lib.Seq.{length-take-le}
use mathlib.Core.Path.{sym, ◌∙◌}
use native.Mathlib.Omega.{arith}
use Rattle.lines.proofs.carry_out.Goals as goal

pub returns-in_err-command : goal.returns-in_err-command
returns-in_err-command c = rw c.from_residual.ensures (line-unread _ _ _ _ _ c.read.ensures c.in_err-command.was)

pub slice_bounds-file-end : goal.slice_bounds-file-end
slice_bounds-file-end c = omega (arith, heard-small _ _ _ _ c.read.ensures c.in_ok-command.was, c.read.auto.file, c.file_size.ensures)

pub slice_bounds-answer-end : goal.slice_bounds-answer-end
slice_bounds-answer-end c = sym (length-take-le _ _ (rw c.file_size.ensures (heard-small _ _ _ _ c.read.ensures c.in_ok-command.was)))

pub returns : goal.returns
returns c = rw (c.at.ensures, c.call_by.ensures, c.file_size.ensures) at c.answer-printed.ensures ∙ line-carried _ _ _ _ _ _ c.read.ensures c.in_ok-command.was
