use mathlib.Core.Path.{◌∙◌, ◌≡◌}
use native.Mathlib.Omega.{arith}
use Rattle.constraints.proofs.Writing.{write-none, write-more, write-all}
use Rattle.constraints.proofs.reasons.write_list.Goals as goal

pub loop-i-init : goal.loop-i-init
loop-i-init c = write-none _ _ _

pub loop-i-preserved : goal.loop-i-preserved
loop-i-preserved c =
    let i = c.loop-i.invariant in
    let e = c.put.ensures in
    e ∙ write-more _ _ _ _ _ _ _ (omega arith) (omega arith) c.at.ensures i

pub returns : goal.returns
returns c =
    let z : c.loop-i.i ≡ 0 = omega (arith, c.loop-i-test.false) in
    (rw z at c.loop-i.invariant) ∙ write-all _ _ _
