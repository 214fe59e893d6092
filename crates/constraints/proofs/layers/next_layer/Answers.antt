use mathlib.Core.Path.{◌∙◌}
use native.Mathlib.Omega.{arith}
use Rattle.constraints.proofs.Spreading.{backward-none, backward-one, backward-sized, backward-node, backward-tail}
use Rattle.constraints.proofs.layers.next_layer.Goals as goal

pub loop-i-init : goal.loop-i-init
loop-i-init c = backward-none _ _ _ _ _ _ _

pub look_back-tail-requires : goal.look_back-tail-requires
look_back-tail-requires c =
    let pre = c.requires in
    let inv = c.loop-i.invariant in
    let z = backward-sized _ _ _ _ _ _ _ _ _ pre.1 pre.2.in_range.from pre.3 inv in
    let t = backward-tail _ _ _ _ _ _ _ _ _ pre.1 pre.2.in_range.from pre.3 inv in
    (rw c.place-node.ensures.0 (z.nodes c.loop-i.i (omega (arith, t, c.loop-i-test.true))), pre.1, pre.2, z)

pub loop-i-preserved : goal.loop-i-preserved
loop-i-preserved c =
    let pre = c.requires in
    let inv = c.loop-i.invariant in
    let test = c.loop-i-test in
    let n = backward-node _ _ _ _ _ _ _ _ _ pre.1 pre.2.in_range.from pre.3 inv c.loop-i.i test.true in
    backward-one _ _ _ _ _ _ _ _ _ _ _ (omega arith) (c.place-node.ensures.0 ∙ n) inv c.look_back-tail.ensures
