-- An empty local's bits are 0; another is as a field.
use mathlib.Core.Path.{◌∙◌, sym}
use Rattle.store.proofs.Laws.{empty-fits, local-value}
use Rattle.store.proofs.values.local_fits.Goals as goal

pub returns-then-kind-eq0 : goal.returns-then-kind-eq0
returns-then-kind-eq0 c = sym (empty-fits _ _ _ c.if-kind-eq0.true)

pub returns : goal.returns
returns c = c.value_fits.ensures ∙ sym (local-value _ _ _ c.if-kind-eq0.false)
