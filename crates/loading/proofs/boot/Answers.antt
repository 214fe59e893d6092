-- Lengths are all that is tested; then the counts, class 0 and the one entry are written.
use mathlib.Core.Path.{sym, ◌∙◌}
use Rattle.entries.specs.Writing.{written-rows}
use Rattle.loading.proofs.Laws.{boot-denied, boot-done}
use Rattle.loading.proofs.boot.Goals as goal

pub returns-then-not-is_shaped : goal.returns-then-not-is_shaped
returns-then-not-is_shaped c = boot-denied _ (sym c.is_shaped.ensures ∙ c.if-not-is_shaped.true)

pub returns : goal.returns
returns c =
    rw (c.put_three-2.ensures, c.put_three.ensures, c.put.ensures, c.write_cells.ensures ∙ written-rows _ _ _) (boot-done _ (sym c.is_shaped.ensures ∙ c.if-not-is_shaped.false))
