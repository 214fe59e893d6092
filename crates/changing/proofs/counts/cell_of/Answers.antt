-- The sections, one after the other.
use mathlib.Core.Path.{◌∙◌}
use Rattle.changing.proofs.Cells.{cell-count, cell-owner, cell-tie, cell-subtype, cell-behind}
use Rattle.changing.proofs.counts.cell_of.Goals as goal

pub returns-then-i-lt-OWNERS_CELL : goal.returns-then-i-lt-OWNERS_CELL
returns-then-i-lt-OWNERS_CELL c = c.at.ensures ∙ cell-count _ _ _ c.if-i-lt-OWNERS_CELL.true

pub returns-then-i-lt-TIE_NUMBERS_CELL : goal.returns-then-i-lt-TIE_NUMBERS_CELL
returns-then-i-lt-TIE_NUMBERS_CELL c = cell-owner _ _ _ c.if-i-lt-OWNERS_CELL.false c.if-i-lt-TIE_NUMBERS_CELL.true

pub returns-then-i-lt-SUBTYPE_NUMBERS_CELL : goal.returns-then-i-lt-SUBTYPE_NUMBERS_CELL
returns-then-i-lt-SUBTYPE_NUMBERS_CELL c = cell-tie _ _ _ c.if-i-lt-TIE_NUMBERS_CELL.false c.if-i-lt-SUBTYPE_NUMBERS_CELL.true

pub returns-then-i-lt-LOADS_CELL : goal.returns-then-i-lt-LOADS_CELL
returns-then-i-lt-LOADS_CELL c = cell-subtype _ _ _ c.if-i-lt-SUBTYPE_NUMBERS_CELL.false c.if-i-lt-LOADS_CELL.true

pub returns : goal.returns
returns c = cell-behind _ _ _ c.if-i-lt-LOADS_CELL.false
