-- A row's number is its cell's, 0 where the table has none; past the last row none stands.
use Rattle.std.proofs.Common.{sym}
use Rattle.definition.specs.Tables.{number_at}
use Rattle.rows.proofs.Turns.{standing-there, standing-past}
use Rattle.rows.proofs.numbers.number_at.Goals as goal

pub returns-then-i-n : goal.returns-then-i-n
unfolding number_at
returns-then-i-n c =
    let a = c.args in
    rw (c.from.ensures, c.at.ensures) (sym (standing-there (number_at a.first a.counts.now) a.n a.i c.if-i-n.true))

pub returns-else-i-n : goal.returns-else-i-n
returns-else-i-n c = let a = c.args in sym (standing-past (number_at a.first a.counts.now) a.n a.i c.if-i-n.false)
