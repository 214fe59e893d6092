-- Six cells, and the number that is returned.
use mathlib.Core.Path.{◌∙◌}
use Rattle.host.specs.Answers.{answer_cells, reply-number}
use Rattle.host.proofs.report.Goals as goal

pub returns : goal.returns
unfolding answer_cells
returns c =
    record {
      answer = rw (c.put_cells.ensures, c.kind_of.ensures, c.from.ensures, c.count_of.ensures, c.details_of-details.ensures);
      number = rw (c.number_of.ensures, c.details_of-details.ensures) (reply-number _ _);
    }
