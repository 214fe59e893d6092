-- The number is looked for among the ties, then among the subtype constraints.
use Rattle.std.specs.Prelude.{None}
use mathlib.Core.Path.{sym, ap, ◌∙◌}
use Rattle.definition.specs.Answers.{ok}
use Rattle.listing.proofs.Laws.{found-by, row-tied, row_below, row-none}
use Rattle.listing.proofs.row_of_cells.Goals as goal

pub returns-in-Some : goal.returns-in-Some
returns-in-Some c = ap ok c.tied.ensures ∙ sym (row-tied _ _ _ _ _ None (found-by _ _ _ _ _ _ c.at.ensures c.find_number.ensures.found) _ c.in-Some.is)

pub returns-in_default-find_number : goal.returns-in_default-find_number
returns-in_default-find_number c =
    sym (row-none _ _ _ _ _ _ (found-by _ _ _ _ _ _ c.at.ensures c.find_number.ensures.found) c.in_default.is (found-by _ _ _ _ _ _ c.at-subtype_count.ensures c.find_number-2.ensures.found) c.in_default-find_number.is)

pub returns : goal.returns
returns c =
    ap ok c.below.ensures
    ∙ sym (row_below _ _ _ _ _ _ (found-by _ _ _ _ _ _ c.at.ensures c.find_number.ensures.found) c.in_default.is (found-by _ _ _ _ _ _ c.at-subtype_count.ensures c.find_number-2.ensures.found) _ c.in-Some-find_number.is)
