use mathlib.Core.Path.{refl, ◌∙◌}
use Rattle.definition.specs.Lists.{write_rows}
use Rattle.script.specs.Files.{pair-written, pairs-written}
use Rattle.script.proofs.files.decode.Goals as goal

pub loop-i-init : goal.loop-i-init
unfolding write_rows
loop-i-init c = (refl, refl)

pub loop-i-preserved : goal.loop-i-preserved
loop-i-preserved c =
    (rw (c.put.ensures, c.byte_at.ensures, c.loop-i.invariant.0) (pair-written _ _ _ c.loop-i-test.true), c.put.auto.t ∙ c.loop-i.invariant.1)

pub shape_of-file : goal.shape_of-file
shape_of-file c = c.loop-i.invariant.1

pub returns : goal.returns
returns c = rw (c.loop-i.invariant.0, pairs-written _ _ c.loop-i-test.false)
