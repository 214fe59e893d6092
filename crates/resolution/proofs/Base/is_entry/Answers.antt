-- The row's loader and name are compared, one after the other.
use Rattle.std.proofs.Math.Path.{sym}
use Rattle.std.proofs.Common.{◌∙◌}
use borrow.Author.Tests.{ne_eqb}
use Rattle.definition.specs.Tables.{entry_at}
use Rattle.resolution.proofs.Laws.{other-loader, same-loader}
use Rattle.resolution.proofs.Base.is_entry.Goals as goal

pub returns-then-at-loader : goal.returns-then-at-loader
unfolding entry_at
returns-then-at-loader c = rw (c.at-then-at-loader.ensures, c.from-place.ensures) (sym (same-loader (entry_at c.args.self.now.cache.now c.args.i).request _ _ (rw (← c.from-place.ensures) (sym c.at.ensures ∙ c.if-at-loader.true))))

pub returns-else-at-loader : goal.returns-else-at-loader
unfolding entry_at
returns-else-at-loader c = ne_eqb _ _ c.if-at-loader.false ∙ sym (other-loader (entry_at c.args.self.now.cache.now c.args.i).request _ _ (λ e. c.if-at-loader.false (c.at.ensures ∙ rw c.from-place.ensures e)))
