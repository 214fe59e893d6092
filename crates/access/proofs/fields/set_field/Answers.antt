-- putfield, once the field is found: the value above the object goes into the object's field.
use Rattle.std.proofs.Math.Path.{sym}
use Rattle.std.proofs.Common.{◌∙◌}
use Rattle.cells.specs.Optional.{optional-none, optional-some}
use Rattle.access.specs.Remainders.{write-unkind, write-wrong, write-absent, write-past, write-at, write-none, write-one}
use Rattle.access.proofs.fields.set_field.Goals as goal

pub returns-then-d-eq0 : goal.returns-then-d-eq0
returns-then-d-eq0 c = rw c.refuse.ensures (write-none _ _ _ _ _ _ _ _ _ _ _ _ c.if-d-eq0.true)

pub returns-then-last-eq0 : goal.returns-then-last-eq0
returns-then-last-eq0 c = rw c.refuse-then-last-eq0.ensures (write-one _ _ _ _ _ _ _ _ _ _ _ _ c.if-d-eq0.false c.if-last-eq0.true)

pub returns-then-not-is_kind : goal.returns-then-not-is_kind
returns-then-not-is_kind c = rw c.refuse-then-not-is_kind.ensures (write-unkind _ _ _ _ _ _ _ _ _ _ _ _ c.if-d-eq0.false c.operand-v.ensures _ _ c.if-last-eq0.false (sym c.is_kind.ensures ∙ c.if-not-is_kind.true))

pub returns-in_default : goal.returns-in_default
returns-in_default c =
    rw c.refuse-in_default.ensures (write-absent _ _ _ _ _ _ _ _ _ _ _ _ c.if-d-eq0.false c.operand-v.ensures _ _ c.if-last-eq0.false (sym c.is_kind.ensures ∙ c.if-not-is_kind.false) _ _ c.operand-x.ensures _ c.received.ensures _ c.in-Ok.is (optional-none _ (sym c.in_default.ensures)))

pub returns-then-j-ge-FIELD_LIMIT : goal.returns-then-j-ge-FIELD_LIMIT
returns-then-j-ge-FIELD_LIMIT c =
    write-past _ _ _ _ _ _ _ _ _ _ _ _ c.if-d-eq0.false c.operand-v.ensures _ _ c.if-last-eq0.false (sym c.is_kind.ensures ∙ c.if-not-is_kind.false) _ _ c.operand-x.ensures _ c.received.ensures _ c.in-Ok.is _ (optional-some _ _ (sym c.in-Some.ensures)) c.if-j-ge-FIELD_LIMIT.true

pub returns-in-Err : goal.returns-in-Err
returns-in-Err c =
    write-wrong _ _ _ _ _ _ _ _ _ _ _ _ c.if-d-eq0.false c.operand-v.ensures _ _ c.if-last-eq0.false (sym c.is_kind.ensures ∙ c.if-not-is_kind.false) _ _ c.operand-x.ensures _ c.received.ensures _ c.in-Err.is

pub returns-else-j-ge-FIELD_LIMIT : goal.returns-else-j-ge-FIELD_LIMIT
returns-else-j-ge-FIELD_LIMIT c =
    write-at _ _ _ _ _ _ _ _ _ _ _ _ c.if-d-eq0.false c.operand-v.ensures _ _ c.if-last-eq0.false (sym c.is_kind.ensures ∙ c.if-not-is_kind.false) _ _ c.operand-x.ensures _ c.received.ensures _ c.in-Ok.is _ c.requires (optional-some _ _ (sym c.in-Some.ensures)) c.if-j-ge-FIELD_LIMIT.false
