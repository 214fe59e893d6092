-- Where a slot is remembered the receiver is an object in use, of a class below 64, at a place below 512.
use Rattle.std.proofs.Common.{sym, ◌∙◌}
use Rattle.execution.specs.Facts.{some-is}
use Rattle.execution.proofs.reaching.slot_of.Goals as goal

pub returns-then-j-lt-FIELD_LIMIT : goal.returns-then-j-lt-FIELD_LIMIT
returns-then-j-lt-FIELD_LIMIT c = λ k h. rw (← some-is h) (record { is = c.if-x-ne-KIND_OBJECT.false; made = sym c.is_used.ensures ∙ c.if-not-is_used.false; place = c.if-p-ge512.false; class = rw c.object_class-r.ensures at c.if-r-ge64.false; fact = rw c.object_class-r.ensures at c.in_ok-j.ensures; low = c.if-j-lt-FIELD_LIMIT.true })
