-- What is selected from the class reached on is what is selected from c on. Numbers fall, so the walk ends.
use Rattle.std.proofs.Math.Path.{◌≡◌}
use Rattle.definition.specs.Classes.{selected}
use Rattle.resolution.specs.Quick.{base_of}
use Rattle.resolution.proofs.Base.select_method.Given as goal

abbrev pub invariant-loop-place : goal.invariant-loop-place
invariant-loop-place l = selected (base_of l.self) l.s l.at ≡ selected (base_of l.self) l.s l.c

abbrev pub decreases-loop-place : goal.decreases-loop-place
decreases-loop-place l = l.at
