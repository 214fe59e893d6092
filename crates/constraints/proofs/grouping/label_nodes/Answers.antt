use Rattle.std.proofs.Common.{◌≡◌, ◌+◌, ◌-◌, ◌<◌, length, get_or, arith}
use Rattle.constraints.proofs.Labelling.{label-none, label-before}
use Rattle.constraints.proofs.grouping.label_nodes.Goals as goal

pub loop-i-init : goal.loop-i-init
loop-i-init c = let args = c.args in label-none args.nodes.now args.labels.now args.beside.now args.ones args.tied args.ones c.requires.4

pub loop-i-preserved : goal.loop-i-preserved
loop-i-preserved c =
    let loop = c.loop-i in
    let args = c.args in
    let is : 1280 + c.from-label.result ≡ 1280 + get_or args.beside.now (loop.i - 1) 0 = omega arith in
    let one : c.from-one.result < length loop.labels = omega (arith, c.requires.3 (args.ones + (loop.i - 1)) (omega arith)) in
    let two : c.from-two.result < length loop.labels = omega (arith, c.requires.3 (args.ones + args.tied + (loop.i - 1)) (omega arith)) in
    label-before args.nodes.now loop.labels args.beside.now args.ones args.tied loop.i args.ones c.from-one.result c.from-two.result (1280 + c.from-label.result) c.loop-i-test.true (omega arith) is
    c.from-one.ensures c.from-two.ensures one two loop.invariant
