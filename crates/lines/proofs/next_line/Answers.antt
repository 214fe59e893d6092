-- The first line ends within the input, or is all of it.
use Rattle.lines.specs.Ready.{next-whole, next-open}
use Rattle.lines.proofs.next_line.Goals as goal

pub returns-then-bytes-n : goal.returns-then-bytes-n
returns-then-bytes-n c = rw c.line_length-bytes.ensures (next-whole _ _ (rw c.line_length-bytes.ensures at c.if-bytes-n.true))

pub returns : goal.returns
returns c = rw (c.then_some.ensures, c.is_alone.ensures) (next-open _ _ (rw c.line_length-bytes.ensures at c.if-bytes-n.false))
