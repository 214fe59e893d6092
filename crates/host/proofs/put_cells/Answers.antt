use mathlib.Core.Path.{refl, ◌∙◌}
use Rattle.definition.specs.Lists.{write_rows}
use Rattle.host.specs.Answers.{cell-written, cells-whole}
use Rattle.host.proofs.put_cells.Goals as goal

pub loop-i-init : goal.loop-i-init
unfolding write_rows
loop-i-init c = (refl, refl)

pub loop-i-preserved : goal.loop-i-preserved
loop-i-preserved c = (rw (c.put.ensures, c.loop-i.invariant.0) (cell-written _ _ _ c.loop-i-test.true), c.put.auto.t ∙ c.loop-i.invariant.1)

pub shape_of-answer : goal.shape_of-answer
shape_of-answer c = c.loop-i.invariant.1

pub returns : goal.returns
returns c = rw (c.loop-i.invariant.0, cells-whole _ _ c.loop-i-test.false)
