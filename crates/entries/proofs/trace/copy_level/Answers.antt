-- Five cells are read, and written at the row.
use Rattle.std.proofs.Common.{arith}
use Rattle.definition.specs.Tables.{put_level}
use Rattle.entries.specs.Remembering.{level_in}
use Rattle.entries.proofs.trace.copy_level.Goals as goal

pub overflow_add-from : goal.overflow_add-from
overflow_add-from c = omega (arith, c.requires)

pub overflow_add-from-2 : goal.overflow_add-from-2
overflow_add-from-2 c = omega (arith, c.requires)

pub overflow_add-from-3 : goal.overflow_add-from-3
overflow_add-from-3 c = omega (arith, c.requires)

pub overflow_add-from-4 : goal.overflow_add-from-4
overflow_add-from-4 c = omega (arith, c.requires)

pub returns : goal.returns
unfolding put_level level_in
returns c = rw (c.put-5.ensures, c.put-4.ensures, c.put-3.ensures, c.put-2.ensures, c.put.ensures, c.from.ensures, c.at-subtypes.ensures, c.at-ties.ensures, c.at-cache.ensures, c.at-kept.ensures, c.at-classes.ensures)
