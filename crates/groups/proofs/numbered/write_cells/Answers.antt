use Rattle.std.proofs.Common.{◌≡◌, ◌+◌, ◌-◌, ◌<◌, arith, ap, ◌∙◌}
use Rattle.groups.proofs.Numbering.{wrote, write-start, write-more}
use Rattle.groups.proofs.numbered.write_cells.Goals as goal

pub loop-i-init : goal.loop-i-init
loop-i-init c = write-start c.args.counts.now c.args.roots.now c.args.n

pub loop-i-preserved : goal.loop-i-preserved
loop-i-preserved c =
    let loop = c.loop-i in
    let args = c.args in
    let up : loop.i ≡ loop.i - 1 + 1 = omega arith in
    let few : loop.i - 1 < args.n = omega arith in
    c.put.ensures ∙ write-more args.counts.now args.roots.now args.n (loop.i - 1) few (c.requires.2 (loop.i - 1) few) loop.counts c.root_number-number.result
    (loop.invariant ∙ ap (wrote args.counts.now args.roots.now args.n) up) c.root_number-number.ensures
