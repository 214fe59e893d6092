-- The counts are written first, then the numbers by the counts as they were. There are as many numbers as rows in both tables.
use mathlib.Core.Path.{◌∙◌}
use native.Mathlib.Omega.{arith}
use Rattle.store.specs.Numbering.{numbered-few}
use Rattle.entries.specs.Writing.{written-rows}
use Rattle.loading.specs.Writing.{numbers_on}
use Rattle.loading.proofs.carrying.write_counts.Goals as goal

pub returns : goal.returns
unfolding numbers_on
returns c =
    let g = c.requires in
    let p = c.at-ties.ensures in
    let q = c.at-subtypes.ensures in
    let r = c.at-tied.ensures in
    let s = c.at-noted.ensures in
    let a = c.number_rows.ensures ∙ numbered-few _ _ _ _ _ (omega (arith, p, q, s, g.ties, g.ties_few, g.subtypes, g.subtypes_few)) in
    let b = c.number_rows-2.ensures ∙ numbered-few _ _ _ _ _ (omega (arith, p, r, s, g.ties, g.ties_few, g.subtypes, g.subtypes_few)) in
    rw (b, a, c.write_cells.ensures ∙ written-rows _ _ _, p, q, r, s)
