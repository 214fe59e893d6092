-- Locals 5 to 7 of a frame are written as not set.
use Rattle.frames.specs.Initial.{put_empty}
use Rattle.frames.proofs.write_empty.Goals as goal

pub returns : goal.returns
unfolding put_empty
returns c = rw (c.write_local-3.ensures, c.write_local-2.ensures, c.write_local.ensures, c.empty-none.ensures)
