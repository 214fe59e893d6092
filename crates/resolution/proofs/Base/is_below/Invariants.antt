-- The class reached is below d exactly if c is. Numbers fall, so the walk ends.
use Rattle.std.proofs.Math.Path.{◌≡◌}
use Rattle.definition.specs.Superclasses.{below}
use Rattle.definition.specs.Classes.{super_of}
use Rattle.resolution.specs.Quick.{base_of}
use Rattle.resolution.proofs.Base.is_below.Given as goal

abbrev pub invariant-loop-at : goal.invariant-loop-at
invariant-loop-at l = below (super_of (base_of l.self)) l.at l.d ≡ below (super_of (base_of l.self)) l.c l.d

abbrev pub decreases-loop-at : goal.decreases-loop-at
decreases-loop-at l = l.at
