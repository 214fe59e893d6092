-- The nearest class from the one reached on is the nearest from c on. Numbers fall, so the walk ends.
use Rattle.std.proofs.Math.Path.{◌≡◌}
use Rattle.definition.specs.Classes.{has_field, super_of}
use Rattle.definition.specs.Superclasses.{nearest}
use Rattle.resolution.specs.Quick.{base_of}
use Rattle.resolution.proofs.Base.nearest_field.Given as goal

abbrev pub invariant-loop-c : goal.invariant-loop-c
invariant-loop-c l = nearest (super_of (base_of l.self)) (has_field (base_of l.self) l.name l.type_name) l.at ≡ nearest (super_of (base_of l.self)) (has_field (base_of l.self) l.name l.type_name) l.c

abbrev pub decreases-loop-c : goal.decreases-loop-c
decreases-loop-c l = l.at
