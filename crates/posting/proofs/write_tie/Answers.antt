-- Three cells make a tie's row.
use Rattle.definition.specs.Tables.{put_tie}
use Rattle.posting.proofs.write_tie.Goals as goal

pub returns : goal.returns
unfolding put_tie
returns c = rw (c.put_three.ensures, c.from.ensures, c.from-2.ensures)
