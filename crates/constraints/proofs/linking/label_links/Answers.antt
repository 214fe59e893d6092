-- The ties' numbers twice, then the subtype constraints'.
use Rattle.constraints.proofs.Linked.{labelled_by}
use Rattle.constraints.proofs.linking.label_links.Goals as goal

pub returns : goal.returns
returns c =
    labelled_by c.copy_cells.ensures c.copy_cells-2.ensures c.copy_cells-3.ensures
