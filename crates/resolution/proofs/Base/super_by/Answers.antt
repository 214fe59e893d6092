-- The row's class; a number that is not lower counts as none.
use Rattle.std.proofs.Math.Path.{ap, sym}
use Rattle.std.proofs.Common.{◌∙◌}
use Rattle.cells.specs.Optional.{optional, optional-none, optional-some}
use Rattle.resolution.specs.Cached.{super-higher, super-lower, super-none}
use Rattle.resolution.proofs.Base.super_by.Goals as goal

pub returns-in_err-p : goal.returns-in_err-p
returns-in_err-p c = c.from_residual.ensures ∙ ap optional (sym (super-none _ _ _ (optional-none _ (sym c.in_err-p.ensures))))

pub returns-then-p-c : goal.returns-then-p-c
returns-then-p-c c = ap optional (sym (super-lower _ _ _ _ (optional-some _ _ (sym c.in_ok-p.ensures)) c.if-p-c.true))

pub returns-else-p-c : goal.returns-else-p-c
returns-else-p-c c = ap optional (sym (super-higher _ _ _ _ (optional-some _ _ (sym c.in_ok-p.ensures)) c.if-p-c.false))
