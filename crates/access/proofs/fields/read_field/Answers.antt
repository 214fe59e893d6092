-- getfield, once the field is found: the value of the object's field takes the object's place.
use Rattle.std.proofs.Math.Path.{sym}
use Rattle.cells.specs.Optional.{optional-none, optional-some}
use Rattle.access.specs.Remainders.{read_none, read-wrong, read-absent, read_past, read_at}
use Rattle.access.proofs.fields.read_field.Goals as goal

pub returns-then-d-eq0 : goal.returns-then-d-eq0
returns-then-d-eq0 c = rw c.refuse.ensures (read_none _ _ _ _ _ _ _ _ _ _ _ _ c.if-d-eq0.true)

pub returns-in_default : goal.returns-in_default
returns-in_default c =
    rw c.refuse-in_default.ensures (read-absent _ _ _ _ _ _ _ _ _ _ _ _ c.if-d-eq0.false _ _ c.operand-x.ensures _ c.received.ensures _ c.in-Ok.is (optional-none _ (sym c.in_default.ensures)))

pub returns-then-j-ge-FIELD_LIMIT : goal.returns-then-j-ge-FIELD_LIMIT
returns-then-j-ge-FIELD_LIMIT c =
    rw c.refuse-then-j-ge-FIELD_LIMIT.ensures (read_past _ _ _ _ _ _ _ _ _ _ _ _ c.if-d-eq0.false _ _ c.operand-x.ensures _ c.received.ensures _ c.in-Ok.is _ (optional-some _ _ (sym c.in-Some.ensures)) c.if-j-ge-FIELD_LIMIT.true)

pub returns-in-Err : goal.returns-in-Err
returns-in-Err c = read-wrong _ _ _ _ _ _ _ _ _ _ _ _ c.if-d-eq0.false _ _ c.operand-x.ensures _ c.received.ensures _ c.in-Err.is

pub returns-else-j-ge-FIELD_LIMIT : goal.returns-else-j-ge-FIELD_LIMIT
returns-else-j-ge-FIELD_LIMIT c =
    read_at _ _ _ _ _ _ _ _ _ _ _ _ c.if-d-eq0.false _ _ c.operand-x.ensures _ c.received.ensures _ c.in-Ok.is _ _ _ c.requires (optional-some _ _ (sym c.in-Some.ensures)) c.if-j-ge-FIELD_LIMIT.false c.field-v.ensures
