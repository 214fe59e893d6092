-- The higher of the two roots is led to the lower.
use mathlib.Core.Path.{refl}
use mathlib.Core.Logic.{inl, inr}
use native.Mathlib.Omega.{arith}
use Rattle.groups.specs.Roots.{top}
use Rattle.groups.proofs.Rooting.{root-low}
use Rattle.groups.proofs.uniting.join.Goals as goal

pub offset_bounds-ups-two : goal.offset_bounds-ups-two
offset_bounds-ups-two c = omega (arith, root-low c.root-two.ensures)

pub bounds-ups-two : goal.bounds-ups-two
bounds-ups-two c = omega (arith, root-low c.root-two.ensures)

pub returns-then-one-two : goal.returns-then-one-two
returns-then-one-two c = (record { low = c.args.one; high = c.root-two.result; order = omega arith; roots = inl (top {p = c.args.one} c.requires.3 refl, c.root-two.ensures); is = refl }, refl)

pub returns : goal.returns
returns c = (record { low = c.root-two.result; high = c.args.one; order = omega arith; roots = inr (top {p = c.args.one} c.requires.3 refl, c.root-two.ensures); is = refl }, refl)
