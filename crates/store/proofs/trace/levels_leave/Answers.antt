-- The greatest numbers up to the level before row i are known; before row i is tested, the rows from it on pass exactly if all do.
use mathlib.Core.Path.{refl, sym, ap, ◌∙◌}
use native.Mathlib.Omega.{arith}
use borrow.Author.Rules.{rules}
use Rattle.definition.specs.Lists.{all}
use Rattle.layout.specs.Places.{rows_end, rows-hit, rows_on, rows_start}
use Rattle.store.specs.Tracing.{cell_at, entry_end, falling-next, file_end, highest, level-told, most-level, most-next}
use Rattle.store.proofs.trace.levels_leave.Goals as goal

pub loop-i-init : goal.loop-i-init
unfolding highest
loop-i-init c = (refl, refl, refl, λ l. (omega arith, omega arith), ap (all _) (rows_start _ _))

pub returns-then-not-level_leaves : goal.returns-then-not-level_leaves
unfolding cell_at
returns-then-not-level_leaves c =
    let inv = c.loop-i.invariant in
    let below = inv.3 c.loop-i-test.true in
    let files = most-next _ _ _ _ _ (rw (← c.classes_left-a.ensures) at below.0) inv.0 (c.highest-files.ensures (file_end c.args.classes.now) (λ i r l p. search rules)) in
    let supers = most-next _ _ _ _ _ (rw (← c.classes_left-a.ensures) at below.0) inv.1 (c.highest-supers.ensures (cell_at c.args.ends.now) (λ i r l p. search rules)) in
    let entries = most-next _ _ _ _ _ (rw (← c.entries_left-e.ensures) at below.1) inv.2 (c.highest-entries.ensures (entry_end c.args.cache.now) (λ i r l p. search rules)) in
    let told = level-told _ _ _ _ _ _ _ _ _ _ (most-level _ _ _ _ files c.classes_left-a.ensures) (most-level _ _ _ _ supers c.classes_left-a.ensures) (most-level _ _ _ _ entries c.entries_left-e.ensures) c.level_leaves.ensures in
    sym (rows-hit _ _ _ _ c.loop-i-test.true (told ∙ c.if-not-level_leaves.true)) ∙ inv.4

pub loop-i-preserved : goal.loop-i-preserved
unfolding cell_at
loop-i-preserved c =
    let inv = c.loop-i.invariant in
    let below = inv.3 c.loop-i-test.true in
    let files = most-next _ _ _ _ _ (rw (← c.classes_left-a.ensures) at below.0) inv.0 (c.highest-files.ensures (file_end c.args.classes.now) (λ i r l p. search rules)) in
    let supers = most-next _ _ _ _ _ (rw (← c.classes_left-a.ensures) at below.0) inv.1 (c.highest-supers.ensures (cell_at c.args.ends.now) (λ i r l p. search rules)) in
    let entries = most-next _ _ _ _ _ (rw (← c.entries_left-e.ensures) at below.1) inv.2 (c.highest-entries.ensures (entry_end c.args.cache.now) (λ i r l p. search rules)) in
    let told = level-told _ _ _ _ _ _ _ _ _ _ (most-level _ _ _ _ files c.classes_left-a.ensures) (most-level _ _ _ _ supers c.classes_left-a.ensures) (most-level _ _ _ _ entries c.entries_left-e.ensures) c.level_leaves.ensures in (
      files,
      supers,
      entries,
      λ l. (rw c.classes_left-a.ensures (falling-next _ _ _ c.requires _ l).classes, rw c.entries_left-e.ensures (falling-next _ _ _ c.requires _ l).cache),
      sym (rows_on _ _ _ _ c.loop-i-test.true (told ∙ c.if-not-level_leaves.false)) ∙ inv.4,
    )

pub returns : goal.returns
returns c = sym (rows_end _ _ _ _ c.loop-i-test.false) ∙ c.loop-i.invariant.4
