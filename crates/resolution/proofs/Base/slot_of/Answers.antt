-- A declared field stands behind the inherited ones, in the file's order; no superclass declares it.
use Rattle.std.proofs.Math.Path.{sym}
use Rattle.cells.specs.Optional.{optional-none, optional-some}
use Rattle.classfile.specs.Lists.{shift}
use Rattle.resolution.specs.Slots.{slot-place}
use Rattle.resolution.proofs.Base.slot_of.Goals as goal

pub returns-in_err-i : goal.returns-in_err-i
unfolding shift
returns-in_err-i c = rw (c.from_residual.ensures, slot-place _ _ _ _ _ _ _, ← c.file_of.ensures, optional-none _ (sym c.in_err-i.ensures))

pub returns : goal.returns
unfolding shift
returns c = rw (slot-place _ _ _ _ _ _ _, ← c.file_of.ensures, optional-some _ _ (sym c.in_ok-i.ensures), c.inherited.ensures.0, c.from.ensures)
