-- Five blocks of nodes, each copied behind the one before.
use Rattle.constraints.proofs.Linked.{linked-by}
use Rattle.constraints.proofs.linking.link_nodes.Goals as goal

pub returns : goal.returns
returns c =
    linked-by c.copy_cells.ensures c.copy_cells-2.ensures c.copy_cells-3.ensures c.copy_cells-4.ensures c.copy_cells-5.ensures
