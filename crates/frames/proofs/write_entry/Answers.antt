-- A frame's row is written as one that is just entered: its class and method, this and the arguments as its locals, point 0 and no operands.
use Rattle.frames.specs.Initial.{put_empty}
use Rattle.definition.specs.Instructions.{pick}
use Rattle.definition.specs.Lists.{filled, write_rows, write_stack}
use Rattle.definition.specs.Tables.{value_of, put_frame}
use Rattle.frames.proofs.write_entry.Goals as goal

pub returns : goal.returns
unfolding put_frame write_rows write_stack filled put_empty value_of pick
returns c =
    rw (c.write_local-5.ensures, c.write_local-4.ensures, c.write_local-3.ensures, c.write_local-2.ensures, c.write_local.ensures, c.write_empty.ensures, c.write_head.ensures)
