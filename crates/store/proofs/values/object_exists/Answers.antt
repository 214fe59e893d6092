-- A row past the used ones holds no object; another does if it has an owner.
use mathlib.Core.Path.{sym}
use Rattle.definition.specs.Tables.{owner_at}
use Rattle.store.proofs.Laws.{exists-past, exists-owned}
use Rattle.store.proofs.values.object_exists.Goals as goal

pub returns-then-made-o : goal.returns-then-made-o
returns-then-made-o c = sym (exists-past _ _ _ c.if-made-o.true)

pub returns : goal.returns
unfolding owner_at
returns c = rw c.at.ensures (sym (exists-owned _ _ _ c.if-made-o.false))
