-- Word 1 first, then the row.
use mathlib.Core.Path.{sym, ◌∙◌}
use Rattle.listing.proofs.Laws.{row-broken, row-sound}
use Rattle.listing.proofs.row.Goals as goal

pub returns-then-is_broken : goal.returns-then-is_broken
returns-then-is_broken c = sym (row-broken _ _ (sym c.is_broken.ensures ∙ c.if-is_broken.true))

pub returns : goal.returns
returns c = c.row_of_cells.ensures ∙ sym (row-sound _ _ (sym c.is_broken.ensures ∙ c.if-is_broken.false))
