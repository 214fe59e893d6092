-- The cells are written from the last class to the first.
use Rattle.std.proofs.Math.Path.{sym}
use Rattle.std.proofs.Common.{◌∙◌}
use Rattle.resolution.proofs.Laws.{write-end, write-next}
use Rattle.resolution.proofs.Base.fill_supers.Goals as goal

pub loop-i-preserved : goal.loop-i-preserved
loop-i-preserved c = rw (c.put.ensures, c.from.ensures, c.super_cell.ensures) (sym (write-next _ _ _ c.loop-i-test.true) ∙ c.loop-i.invariant)

pub returns : goal.returns
returns c = sym (write-end _ _ _ _ c.loop-i-test.false) ∙ c.loop-i.invariant
