-- Too many loads, fewer than the most, or the most.
use Rattle.std.proofs.Common.{sym}
use Rattle.entries.specs.Remembering.{remembered-few, remembered-full, remembered-many}
use Rattle.entries.proofs.trace.remember.Goals as goal

pub returns-then-loads-gt-TRACE_LIMIT : goal.returns-then-loads-gt-TRACE_LIMIT
returns-then-loads-gt-TRACE_LIMIT c = sym (remembered-many _ _ c.at-loads.ensures c.if-loads-gt-TRACE_LIMIT.true)

pub returns-then-loads-lt-TRACE_LIMIT : goal.returns-then-loads-lt-TRACE_LIMIT
returns-then-loads-lt-TRACE_LIMIT c = rw (c.copy_level.ensures, c.put.ensures) (remembered-few _ _ c.at-loads.ensures c.if-loads-lt-TRACE_LIMIT.true)

pub returns : goal.returns
returns c = rw (c.copy_level-2.ensures, c.move_down.ensures) (remembered-full _ _ c.at-loads.ensures c.if-loads-gt-TRACE_LIMIT.false c.if-loads-lt-TRACE_LIMIT.false)
