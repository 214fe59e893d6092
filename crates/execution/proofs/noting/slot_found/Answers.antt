-- The class, the field and its slot are found as the definition finds them, the receiver is below the class, and the tie is no new one.
use Rattle.std.proofs.Common.{sym, ◌∙◌}
use Rattle.cells.specs.Optional.{optional-some}
use Rattle.execution.specs.Facts.{some-is, slot-made}
use Rattle.execution.proofs.noting.slot_found.Goals as goal

pub returns-then-is_old : goal.returns-then-is_old
returns-then-is_old c = λ j h. rw (← some-is h) (slot-made _ _ _ _ _ _ _ _ _ _ _ _ _ _ (optional-some _ _ (sym c.in_ok-e.ensures)) (optional-some _ _ (sym c.in_ok-s.ensures)) (optional-some _ _ (sym c.in_ok-j.ensures)) (sym c.is_below.ensures ∙ c.if-is_below.true) c.loader_of.ensures (c.is_old.ensures c.if-is_old.true) c.if-j-lt-FIELD_LIMIT.true, c.if-j-lt-FIELD_LIMIT.true)
