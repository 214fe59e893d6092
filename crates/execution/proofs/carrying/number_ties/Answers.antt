-- As many rows as there are ties, all within both tables.
use native.Mathlib.Omega.{arith}
use Rattle.std.proofs.Common.{◌∙◌}
use Rattle.store.specs.Numbering.{numbered-few}
use Rattle.execution.proofs.carrying.number_ties.Goals as goal

pub returns : goal.returns
returns c =
    let q = c.requires in
    let n = c.tie_number.ensures.0 in
    rw (← n) (c.number_rows.ensures ∙ numbered-few _ _ _ _ _ (omega (arith, q.0, q.1, n)))
