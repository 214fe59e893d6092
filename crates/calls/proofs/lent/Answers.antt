-- A list of so many numbers, or one of 512 where there are more.
use Rattle.calls.specs.Made.{serves-min}
use Rattle.calls.proofs.lent.Goals as goal

pub returns : goal.returns
returns c = rw c.min.ensures (serves-min c.args.n)
