-- The classes of the first p cached requests were searched for; those that are marked as met are some of them.
use Rattle.constraints.specs.Agreement.{super_in}
use Rattle.constraints.specs.Choosing.{held, Holds}
use Rattle.constraints.specs.Search.{Stamped}
use Rattle.constraints.proofs.Choices.{Met, Swept}
use Rattle.constraints.proofs.choosing.search_all.Given as goal

abbrev pub invariant-loop-p : goal.invariant-loop-p
invariant-loop-p l =
    Holds l.best l.kept
    × Stamped 256 l.p l.aboves
    × Met l.classes l.p l.met
    × Swept l.froms l.tos l.labels l.count l.classes l.cached l.only (super_in l.supers) l.p (held l.initial.best l.fn.size) (held l.best l.kept)
