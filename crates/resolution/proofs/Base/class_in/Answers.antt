-- A row that is there has its third cell.
use Rattle.std.proofs.Math.Path.{ap, sym}
use Rattle.definition.specs.Tables.{entry_at}
use Rattle.cells.specs.Optional.{optional}
use Rattle.resolution.specs.Cached.{class-here, class-nowhere}
use Rattle.resolution.specs.Quick.{quick_base}
use Rattle.resolution.proofs.Base.class_in.Goals as goal

pub returns-then-i-at : goal.returns-then-i-at
unfolding quick_base entry_at
returns-then-i-at c =
    let l = rw c.at.ensures at c.if-i-at.true in
    rw (class-here (entry_at c.args.self.now.cache.now) _ _ l) (cc)

pub returns-else-i-at : goal.returns-else-i-at
unfolding quick_base
returns-else-i-at c = ap optional (sym (class-nowhere _ _ _ (rw (← c.at.ensures) c.if-i-at.false)))
