-- new is refused if its class is not loaded under the loader, if its task has used its share, or if there is no room for an object or an operand; else an object is
-- made with the number given.
use Rattle.std.proofs.Math.Path.{sym}
use Rattle.std.proofs.Common.{◌∙◌}
use borrow.Author.Tests.{lt-ltb, le-ltb}
use Rattle.cells.specs.Optional.{optional-none, optional-some}
use Rattle.access.specs.Makings.{new-uncached, new-share-used, new-no-room, new-made}
use Rattle.access.proofs.making.new_object.Goals as goal

pub returns-in_default : goal.returns-in_default
returns-in_default c = new-uncached _ _ _ _ _ _ _ _ _ _ _ _ _ (rw c.from.ensures at (optional-none _ (sym c.in_default.ensures)))

pub returns-then-is_share_used : goal.returns-then-is_share_used
returns-then-is_share_used c = rw c.refuse.ensures (new-share-used _ _ _ _ _ _ _ _ _ _ _ _ _ _ (rw c.from.ensures at (optional-some _ _ (sym c.in-Some.ensures))) (sym c.is_share_used.ensures ∙ c.if-is_share_used.true))

pub returns-then-free-ge-OBJECT_LIMIT : goal.returns-then-free-ge-OBJECT_LIMIT
returns-then-free-ge-OBJECT_LIMIT c = rw c.refuse-then-free-ge-OBJECT_LIMIT.ensures (new-no-room _ _ _ _ _ _ _ _ _ _ _ _ _ _ (rw c.from.ensures at (optional-some _ _ (sym c.in-Some.ensures))) (sym c.is_share_used.ensures ∙ c.if-is_share_used.false) (rw (le-ltb _ _ c.if-free-ge-OBJECT_LIMIT.true)))

pub returns-then-top-ge-OPERAND_LIMIT : goal.returns-then-top-ge-OPERAND_LIMIT
returns-then-top-ge-OPERAND_LIMIT c =
    rw c.refuse-then-top-ge-OPERAND_LIMIT.ensures (new-no-room _ _ _ _ _ _ _ _ _ _ _ _ _ _ (rw c.from.ensures at (optional-some _ _ (sym c.in-Some.ensures))) (sym c.is_share_used.ensures ∙ c.if-is_share_used.false) (rw (lt-ltb _ _ c.if-free-ge-OBJECT_LIMIT.false, le-ltb _ _ c.if-top-ge-OPERAND_LIMIT.true)))

pub returns : goal.returns
returns c =
    new-made _ _ _ _ _ _ _ _ _ _ _ _ _ _ (rw c.from.ensures at (optional-some _ _ (sym c.in-Some.ensures))) (sym c.is_share_used.ensures ∙ c.if-is_share_used.false) c.if-free-ge-OBJECT_LIMIT.false c.if-top-ge-OPERAND_LIMIT.false
