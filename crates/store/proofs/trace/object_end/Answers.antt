-- A free row has no class.
use mathlib.Core.Path.{sym, ◌∙◌}
use Rattle.definition.specs.Tables.{owner_at}
use Rattle.store.specs.Tracing.{end-free, end-owned}
use Rattle.store.proofs.trace.object_end.Goals as goal

pub returns-then-at-eq0 : goal.returns-then-at-eq0
unfolding owner_at
returns-then-at-eq0 c = sym (end-free _ _ _ (rw (← c.from.ensures) (sym c.at.ensures ∙ c.if-at-eq0.true)))

pub returns : goal.returns
unfolding owner_at
returns c = rw (c.at-2.ensures, c.from-2.ensures) (sym (end-owned _ _ _ (λ e. c.if-at-eq0.false (c.at.ensures ∙ rw c.from.ensures e))))
