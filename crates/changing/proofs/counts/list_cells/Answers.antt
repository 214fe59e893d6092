-- Before cell i is written, the first i cells are those of the list, and all from the loads on are 0.
use mathlib.Core.Path.{sym, ◌∙◌}
use native.Mathlib.Omega.{arith}
use Rattle.definition.specs.Numbers.{counts_length}
use Rattle.layout.specs.Places.{rows-length}
use Rattle.changing.specs.Cells.{cell_of}
use Rattle.changing.proofs.Copies.{copying-start, copying-cell}
use Rattle.changing.proofs.Cells.{listed_at, behind-set, listed-whole}
use Rattle.changing.proofs.counts.list_cells.Goals as goal

pub loop-i-init : goal.loop-i-init
loop-i-init c = (copying-start (rows-length _ counts_length 0 ∙ sym c.requires.1.sized), c.requires.1.zeros)

pub bounds-carried-i : goal.bounds-carried-i
bounds-carried-i c =
    let loop = c.loop-i in
    let args = c.args in
    omega (arith, loop.invariant.0.sized, rows-length (cell_of args.old_counts.now args.n) counts_length 0, c.loop-i-test.true)

pub loop-i-preserved : goal.loop-i-preserved
loop-i-preserved c =
    let loop = c.loop-i in
    let args = c.args in
    let l = c.loop-i-test.true in
    (copying-cell _ loop.invariant.0 (omega (arith, rows-length (cell_of args.old_counts.now args.n) counts_length 0, l)) (c.cell_of.ensures ∙ listed_at (cell_of args.old_counts.now args.n) loop.i (omega (arith, l))), behind-set loop.carried loop.i c.cell_of.result l loop.invariant.1)

pub shape_of-carried : goal.shape_of-carried
shape_of-carried c = sym c.loop-i.invariant.0.sized ∙ (rows-length _ counts_length 0 ∙ sym c.requires.1.sized)

pub returns : goal.returns
returns c = listed-whole _ _ _ c.loop-i.invariant.0 c.loop-i-test.false c.loop-i.invariant.1
