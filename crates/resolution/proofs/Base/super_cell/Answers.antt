-- A superclass's number is lower than the class's, so that it and 1 fit a byte.
use Rattle.std.proofs.Math.Path.{sym}
use Prim.Native.Nat.{◌<◌}
use native.Mathlib.Omega.{arith}
use Rattle.cells.specs.Optional.{optional-none, optional-some}
use Rattle.laws.specs.Agreement.{super-falls}
use Rattle.resolution.specs.Lookups.{cell-none, cell-some}
use Rattle.resolution.proofs.Base.super_cell.Goals as goal

pub overflow_add-result : goal.overflow_add-result
overflow_add-result c = let l : c.in-Some.p < c.from.result = super-falls _ _ _ (optional-some _ _ (sym c.in-Some.ensures)) in omega (arith, l, c.from.ensures)

pub overflow_cast-result : goal.overflow_cast-result
overflow_cast-result c = let l : c.in-Some.p < c.from.result = super-falls _ _ _ (optional-some _ _ (sym c.in-Some.ensures)) in omega (arith, l, c.from.ensures)

pub returns-in-Some : goal.returns-in-Some
returns-in-Some c = rw (← c.from.ensures) (sym (cell-some _ _ _ (optional-some _ _ (sym c.in-Some.ensures))))

pub returns-in-None : goal.returns-in-None
returns-in-None c = rw (← c.from.ensures) (sym (cell-none _ _ (optional-none _ (sym c.in-None.ensures))))
