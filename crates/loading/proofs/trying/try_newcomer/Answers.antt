-- The entry is tried; a new class's direct superclass is put in its cell.
use Rattle.loading.proofs.Copied.{entry-tried, class-tried}
use Rattle.loading.proofs.trying.try_newcomer.Goals as goal

pub returns-then-n-ne0 : goal.returns-then-n-ne0
returns-then-n-ne0 c = class-tried _ _ _ _ _ _ _ _ _ _ _ _ c.from.ensures c.try_entry.ensures c.if-n-ne0.true _ _ c.from-then-n-ne0.ensures c.put.ensures

pub returns-else-n-ne0 : goal.returns-else-n-ne0
returns-else-n-ne0 c = entry-tried _ _ _ _ _ _ _ _ _ _ _ _ c.from.ensures c.try_entry.ensures c.if-n-ne0.false
