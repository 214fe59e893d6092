-- Too many ties, ties that don't fit, and the numbers of the roots written.
use mathlib.Core.Path.{ap, ◌∙◌}
use Prim.Native.Nat.{ℕ}
use native.Mathlib.Omega.{arith}
use lib.ListN.{length-replicate}
use Rattle.groups.specs.Numbered.{regrouped}
use Rattle.groups.proofs.Numbering.{root-few, many-kept, none_kept, cells-put}
use borrow.Author.Rules.{rules}
use Rattle.groups.proofs.numbered.write_groups.Goals as goal

pub write_cells-requires : goal.write_cells-requires
write_cells-requires c =
    (omega (arith, c.from.ensures, c.if-n-le-TIE_LIMIT.true), search rules, λ i h. root-few c.args.counts.now c.args.ties.now c.at-n.result c.if-n-le-TIE_LIMIT.true (length-replicate {A = ℕ} 256 0) c.group_rows.ensures c.if-group_rows.true i (omega (arith, h, c.from.ensures)))

pub returns-then-group_rows : goal.returns-then-group_rows
returns-then-group_rows c =
    cells-put c.args.counts.now c.args.ties.now c.at-n.result c.if-n-le-TIE_LIMIT.true (length-replicate {A = ℕ} 256 0) c.group_rows.ensures c.if-group_rows.true _ (rw c.from.ensures at c.write_cells.ensures)
    ∙ ap (λ x. regrouped c.args.counts.now c.args.ties.now x) c.at-n.ensures

pub returns-else-group_rows : goal.returns-else-group_rows
returns-else-group_rows c = none_kept c.args.counts.now c.args.ties.now c.at-n.result c.if-n-le-TIE_LIMIT.true (length-replicate {A = ℕ} 256 0) c.group_rows.ensures c.if-group_rows.false ∙ ap (λ x. regrouped c.args.counts.now c.args.ties.now x) c.at-n.ensures

pub returns-else-n-le-TIE_LIMIT : goal.returns-else-n-le-TIE_LIMIT
returns-else-n-le-TIE_LIMIT c = many-kept c.args.counts.now c.args.ties.now c.at-n.result c.if-n-le-TIE_LIMIT.false ∙ ap (λ x. regrouped c.args.counts.now c.args.ties.now x) c.at-n.ensures
