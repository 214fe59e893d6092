-- Lengths, the count of ties, today's test of what would be filled, and the versions.
use mathlib.Core.Path.{sym, ◌∙◌}
use native.Mathlib.Omega.{arith}
use Rattle.first.specs.Carries.{keeps_later}
use Rattle.changing.proofs.Judging.{other_length, many-ties, told-broken, told-later, told-judged}
use Rattle.changing.proofs.Cells.{blank}
use Rattle.changing.proofs.judge.Goals as goal

pub returns-then-old_counts-ne-OWNERS_CELL : goal.returns-then-old_counts-ne-OWNERS_CELL
returns-then-old_counts-ne-OWNERS_CELL c = other_length _ c.if-old_counts-ne-OWNERS_CELL.true

pub returns-then-n-gt-TIE_LIMIT : goal.returns-then-n-gt-TIE_LIMIT
returns-then-n-gt-TIE_LIMIT c = many-ties _ (omega (arith, c.at-n.ensures, c.if-n-gt-TIE_LIMIT.true))

pub list_cells-requires : goal.list_cells-requires
list_cells-requires c = (c.if-n-gt-TIE_LIMIT.false, blank)

pub returns-then-is_broken : goal.returns-then-is_broken
returns-then-is_broken c =
    told-broken _ c.if-old_counts-ne-OWNERS_CELL.false _ c.if-n-gt-TIE_LIMIT.false c.at-n.ensures _ c.list_cells.ensures _ c.write_groups.ensures (sym c.is_broken.ensures ∙ c.if-is_broken.true)

pub returns-then-keeps_later : goal.returns-then-keeps_later
unfolding keeps_later
returns-then-keeps_later c =
    told-later _ c.if-old_counts-ne-OWNERS_CELL.false _ c.if-n-gt-TIE_LIMIT.false c.at-n.ensures _ c.list_cells.ensures _ c.write_groups.ensures (sym c.is_broken.ensures ∙ c.if-is_broken.false) (sym c.keeps_later.ensures ∙ c.if-keeps_later.true)

pub returns : goal.returns
unfolding keeps_later
returns c =
    told-judged _ c.if-old_counts-ne-OWNERS_CELL.false _ c.if-n-gt-TIE_LIMIT.false c.at-n.ensures _ c.list_cells.ensures _ c.write_groups.ensures (sym c.is_broken.ensures ∙ c.if-is_broken.false) (sym c.keeps_later.ensures ∙ c.if-keeps_later.false)
