-- The row, told.
use Rattle.host.specs.Rows.{told_same}
use Rattle.host.proofs.tariff_row.Goals as goal

pub returns : goal.returns
returns c = told_same _ _ _ _ _ c.row-listed.ensures c.report_row.ensures
