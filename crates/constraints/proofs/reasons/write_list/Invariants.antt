-- Before a cell is written, those behind it are.
use mathlib.Core.Path.{◌≡◌}
use Rattle.constraints.proofs.Writing.{written_from}
use Rattle.constraints.proofs.reasons.write_list.Given as goal

abbrev pub invariant-loop-i : goal.invariant-loop-i
invariant-loop-i l = l.list ≡ written_from l.best l.size l.initial.list l.i
