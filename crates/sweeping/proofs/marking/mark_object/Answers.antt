-- An object that is marked, or for which there is no room, changes nothing; another is marked and put on the list.
use mathlib.Core.Path.{◌∙◌, sym}
use Rattle.sweeping.proofs.Laws.{mark-again, mark-full, mark-new}
use Rattle.sweeping.proofs.marking.mark_object.Goals as goal

pub returns-then-at-ne0 : goal.returns-then-at-ne0
returns-then-at-ne0 c = sym (mark-again _ _ (λ e. c.if-at-ne0.true (c.at.ensures ∙ e)))

pub returns-then-n-ge-OBJECT_LIMIT : goal.returns-then-n-ge-OBJECT_LIMIT
returns-then-n-ge-OBJECT_LIMIT c = sym (mark-full _ _ (sym c.at.ensures ∙ c.if-at-ne0.false) c.if-n-ge-OBJECT_LIMIT.true)

pub returns : goal.returns
returns c = rw (c.put-2.ensures, c.put.ensures, c.from.ensures) (sym (mark-new _ _ (sym c.at.ensures ∙ c.if-at-ne0.false) c.if-n-ge-OBJECT_LIMIT.false))
