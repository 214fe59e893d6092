-- Too many ties, ties that don't fit, and cells compared with the numbers of the roots.
use mathlib.Core.Path.{ap, ◌∙◌}
use Prim.Native.Nat.{ℕ}
use lib.ListN.{length-replicate}
use Rattle.groups.specs.Numbered.{groups_fit}
use Rattle.groups.proofs.Numbering.{many-fit, none-fit, cells_right}
use Rattle.groups.proofs.numbered.groups_fit.Goals as goal

pub returns-then-n-gt-TIE_LIMIT : goal.returns-then-n-gt-TIE_LIMIT
returns-then-n-gt-TIE_LIMIT c = many-fit c.args.counts.now c.args.ties.now c.at-n.result c.if-n-gt-TIE_LIMIT.true ∙ ap (λ x. groups_fit c.args.counts.now c.args.ties.now x) c.at-n.ensures

pub returns-then-not-group_rows : goal.returns-then-not-group_rows
returns-then-not-group_rows c = none-fit c.args.counts.now c.args.ties.now c.at-n.result c.if-n-gt-TIE_LIMIT.false (length-replicate {A = ℕ} 256 0) c.group_rows.ensures c.if-not-group_rows.true ∙ ap (λ x. groups_fit c.args.counts.now c.args.ties.now x) c.at-n.ensures

pub returns : goal.returns
returns c =
    cells_right c.args.counts.now c.args.ties.now c.at-n.result c.if-n-gt-TIE_LIMIT.false (length-replicate {A = ℕ} 256 0) c.group_rows.ensures c.if-not-group_rows.false _ (rw c.from.ensures at c.cells_fit.ensures)
    ∙ ap (λ x. groups_fit c.args.counts.now c.args.ties.now x) c.at-n.ensures
