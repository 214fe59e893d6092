use Prim.Native.Nat.{◌≤◌}
use mathlib.Core.Path.{refl, sym}
use native.Mathlib.Omega.{arith}
use Rattle.constraints.specs.Nodes.{First}
use Rattle.constraints.proofs.Filling.{fill_more, joined-first, joined-more, bucket-key}
use Rattle.constraints.proofs.numbering.number_nodes.Goals as goal

pub loop-p-init : goal.loop-p-init
loop-p-init c = (λ q h. absurd (omega arith), joined-first _ _ c.requires.3)

pub node_of-node-requires : goal.node_of-node-requires
node_of-node-requires c =
    let loop = c.loop-p in
    let few : loop.p ≤ 1280 = omega (arith, c.loop-p-test.true) in
    let key = bucket-key c.args.numbers.now loop.p _ _ c.bucket-key.ensures.0 refl in
    (omega arith, omega (arith, c.loop-p-test.true), omega arith, omega (arith, loop.invariant.1.nexts_long), loop.invariant.0, rw (c.from.ensures, sym key) (loop.invariant.1.head c.bucket-key.result (omega (arith, c.bucket-key.ensures.1))), loop.invariant.1.next)

pub loop-p-preserved : goal.loop-p-preserved
loop-p-preserved c =
    let loop = c.loop-p in
    let numbers = c.args.numbers.now in
    let key = bucket-key numbers loop.p _ _ c.bucket-key.ensures.0 refl in
    rw (c.enter.ensures.nexts_after, c.enter.ensures.heads_after) (
      fill_more (λ q. q) (λ q v. First numbers q v) loop.nodes loop.p c.node_of-node.result (omega arith) (λ q h r. omega arith) loop.invariant.0
          c.node_of-node.ensures,
      joined-more _ _ _ _ _ key (omega (arith, c.bucket-key.ensures.1)) (omega (arith, c.loop-p-test.true)) loop.invariant.1,
    )
