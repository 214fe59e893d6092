-- No rows, a table too short for the groups, rows of which the table of ties has a part, and rows that it has.
use Rattle.std.proofs.Common.{◌∙◌, arith}
use Rattle.groups.proofs.Answering.{answer-none, answer-whole}
use Rattle.groups.proofs.grouping.group_rows.Goals as goal

pub returns-then-n-eq0 : goal.returns-then-n-eq0
returns-then-n-eq0 c = answer-none _ _ (c.from-n.ensures ∙ c.min.ensures) c.if-n-eq0.true

pub returns-then-ties-n : goal.returns-then-ties-n
returns-then-ties-n c = answer-whole _ _ (c.from-n.ensures ∙ c.min.ensures) _ (omega arith) (omega arith) c.copy_cells.ensures c.group_whole.ensures
