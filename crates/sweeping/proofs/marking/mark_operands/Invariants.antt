use mathlib.Core.Path.{◌≡◌}
use lib.ListN.{length}
use Rattle.definition.specs.Lists.{stack}
use Rattle.definition.specs.Sweeping.{named}
use Rattle.definition.specs.Tables.{operand_at}
use Rattle.sweeping.specs.Marking.{work, mark_all}
use Rattle.sweeping.proofs.marking.mark_operands.Given as goal

abbrev pub invariant-loop-i : goal.invariant-loop-i
invariant-loop-i l = (mark_all (work l.marks l.list l.size) (named (stack (operand_at l.frames l.b) l.i)) ≡ mark_all (work l.initial.marks l.initial.list l.n) (named (stack (operand_at l.frames l.b) l.depth))) × (length l.marks ≡ length l.initial.marks) × (length l.list ≡ length l.initial.list)
