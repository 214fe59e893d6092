-- No space stands before place i: the first one from there on is the first of all.
use mathlib.Core.Path.{◌≡◌}
use lib.ListN.{drop}
use Rattle.script.specs.Parts.{space_from}
use Rattle.script.proofs.fields.first_space.Given as goal

abbrev pub invariant-loop-i : goal.invariant-loop-i
invariant-loop-i l = space_from l.i (drop l.i l.s) ≡ space_from 0 l.s
