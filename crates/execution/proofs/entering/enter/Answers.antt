-- The arguments are read before anything is written. The frame in row m + 1 is written whole, the caller's point and operand count with it, and the task has
-- one frame more.
use native.Mathlib.Omega.{arith}
use Rattle.execution.proofs.entering.enter.Goals as goal

pub overflow_add-d : goal.overflow_add-d
overflow_add-d c = omega (arith, c.requires.2)

pub entry-entered-requires : goal.entry-entered-requires
entry-entered-requires c = (c.requires.1, omega (arith, c.requires.2))

pub overflow_add-m : goal.overflow_add-m
overflow_add-m c = omega (arith, c.requires.0)

pub overflow_add-m-2 : goal.overflow_add-m-2
overflow_add-m-2 c = omega (arith, c.requires.0)

pub returns : goal.returns
returns c =
    record { counted = c.write_frame_count.ensures; written = rw (c.write_entry.ensures, c.row.ensures, c.write_moved.ensures, c.entry-entered.ensures) }
