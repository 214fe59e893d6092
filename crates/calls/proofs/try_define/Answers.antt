-- What a try with the list of its own answers is what the call does.
use Rattle.unbroken.specs.Tried.{try-done}
use Rattle.calls.specs.Made.{served}
use Rattle.calls.proofs.try_define.Goals as goal

pub returns : goal.returns
returns c = try-done _ _ _ _ _ _ _ c.try_define-tried.ensures (served _ c.args.n c.lent-end.ensures)
