-- The fields of the superclass, if there is one.
use Rattle.std.proofs.Math.Path.{sym}
use Rattle.std.proofs.Common.{◌∙◌}
use native.Mathlib.Omega.{arith}
use Rattle.cells.specs.Optional.{optional-none, optional-some}
use Rattle.resolution.specs.Slots.{inherited-none, inherited-some}
use Rattle.resolution.proofs.Base.inherited.Goals as goal

pub returns-in-Some : goal.returns-in-Some
returns-in-Some c = (c.size_of.ensures.0 ∙ sym (inherited-some _ _ _ (optional-some _ _ (sym c.in-Some.ensures))), c.size_of.ensures.1)

pub returns-in-None : goal.returns-in-None
returns-in-None c = (sym (inherited-none _ _ (optional-none _ (sym c.in-None.ensures))), omega arith)
