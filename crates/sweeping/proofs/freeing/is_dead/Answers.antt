-- A free row holds no object; another's is dead if it is not marked.
use mathlib.Core.Path.{◌∙◌, sym}
use Rattle.definition.specs.Tables.{owner_at}
use Rattle.sweeping.proofs.Laws.{dead-free, dead-used}
use Rattle.sweeping.proofs.freeing.is_dead.Goals as goal

pub returns-then-at-ne0 : goal.returns-then-at-ne0
unfolding owner_at
returns-then-at-ne0 c = rw (c.at-then-at-ne0.ensures, c.from-row.ensures) (sym (dead-used _ _ _ (λ e. c.if-at-ne0.true (c.at.ensures ∙ rw c.from-row.ensures e))))

pub returns-else-at-ne0 : goal.returns-else-at-ne0
unfolding owner_at
returns-else-at-ne0 c = rw c.if-at-ne0.false (sym (dead-free _ _ _ (rw (← c.from-row.ensures, ← c.at.ensures) c.if-at-ne0.false)))
