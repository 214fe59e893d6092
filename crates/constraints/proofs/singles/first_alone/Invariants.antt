-- The first e links were looked at.
use Rattle.constraints.specs.Agreement.{super_in}
use Rattle.constraints.specs.Choosing.{one_row, Alone}
use Rattle.constraints.proofs.singles.first_alone.Given as goal

abbrev pub invariant-loop-e : goal.invariant-loop-e
invariant-loop-e l =
    Alone l.froms l.tos l.labels l.classes l.cached l.only (super_in l.supers) l.count l.e (one_row l.fn.before) (one_row l.kept)
