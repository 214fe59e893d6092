-- Nothing is new where the constraint is there; else one row is written.
use mathlib.Core.Path.{sym, ◌∙◌}
use Rattle.rows.proofs.Posted.{subtype-there, subtype-new}
use Rattle.rows.proofs.adding.add_subtype.Goals as goal

pub returns-then-subtype_known : goal.returns-then-subtype_known
returns-then-subtype_known c =
    let all = subtype-there _ _ _ _ _ _ (sym c.subtype_known.ensures ∙ c.if-subtype_known.true) c.from-rows.ensures in
    record { value = all.0; subtypes_after = all.1 }

pub returns : goal.returns
returns c =
    let written = rw (c.from-rows.ensures, c.from.ensures) at c.put_three.ensures in
    let all = subtype-new _ _ _ _ _ _ _ (sym c.subtype_known.ensures ∙ c.if-subtype_known.false) c.from-rows.ensures written in
    record { value = all.0; subtypes_after = all.1 }
