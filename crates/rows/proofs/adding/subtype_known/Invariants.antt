-- None of the rows that were passed, which are the last, is the constraint.
use mathlib.Core.Path.{◌≡◌}
use Rattle.definition.specs.Lists.{any, rows}
use Rattle.definition.specs.Loading.{subtype_is}
use Rattle.definition.specs.Tables.{subtype_at}
use Rattle.rows.specs.Posting.{note}
use Rattle.rows.proofs.adding.subtype_known.Given as goal

abbrev pub invariant-loop-i : goal.invariant-loop-i
invariant-loop-i l = any (subtype_is l.loader (note l.low l.high)) (rows (subtype_at l.subtypes) l.i 0)
    ≡ any (subtype_is l.loader (note l.low l.high)) (rows (subtype_at l.subtypes) l.count 0)
