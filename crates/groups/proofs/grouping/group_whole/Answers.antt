-- A loader past the last, and the groups.
use mathlib.Core.Path.{sym, ◌∙◌}
use Rattle.groups.proofs.Answering.{all-loaders}
use Rattle.groups.proofs.grouping.group_whole.Goals as goal

pub list_groups-requires : goal.list_groups-requires
list_groups-requires c = (c.requires.0, c.requires.1, c.requires.2, all-loaders _ _ (sym c.rows_fit.ensures ∙ c.if-not-rows_fit.false))
