-- The two cells of a row are those of its request.
use Rattle.constraints.specs.Nodes.{request_in}
use Rattle.constraints.proofs.numbering.row_number.Goals as goal

pub returns-then-row-t : goal.returns-then-row-t
unfolding request_in
returns-then-row-t c = c.request_number.ensures

pub returns : goal.returns
unfolding request_in
returns c = rw (c.at.ensures, c.at-2.ensures) at c.request_number-2.ensures
